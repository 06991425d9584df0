-- What follows from what a step of reading gave, and where one fails.
use Rattle.std.proofs.Common.{◌≡◌, Bool, true, false, cond, ◌⊎◌, inl, inr, refl}
use Rattle.std.specs.Prelude.{Option, Some, None}
use Rattle.model.specs.ReadOutcomes.{Fails}
use Rattle.model.specs.declared.read_error.ReadError.{ReadError}
use Rattle.model.specs.declared.read_error.ReadError.TheVariants.{Memory, Malformed}

pub some_same : {A : Type 0} (x y : A) → Some x ≡ Some y → x ≡ y
some_same x y h = cc

-- a test that had to pass
pub if_true : {A : Type 0} (test : Bool) (read : Option A) (y : A) → cond test read None ≡ Some y → (test ≡ true) × (read ≡ Some y)
if_true true read y h = (refl, h)
if_true false read y h = cc

-- a test between two readings
pub if_either : {A : Type 0} (test : Bool) (read other : Option A) (y : A) → cond test read other ≡ Some y
    → ((test ≡ true) × (read ≡ Some y)) ⊎ ((test ≡ false) × (other ≡ Some y))
if_either true read other y h = inl (refl, h)
if_either false read other y h = inr (refl, h)

-- where one reading fails another does
pub fails_on : {X Y : Type 0} (e : ReadError) (read : Option X) (other : Option Y) → (read ≡ None → other ≡ None) → Fails e read → Fails e other
fails_on Memory read other f h = h
fails_on Malformed read other f h = f h
