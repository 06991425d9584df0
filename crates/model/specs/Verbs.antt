-- The verbs of lines. Each has a row in each of these tables: its word in a line, the kinds of the words behind it, and the request that they make.
use Rattle.std.specs.Prelude.{◌≡◌, ℕ, Bool, true, false, if◌then◌else◌, List, [], ◌∷◌, bytes_eq, codes, Option, None, Some}
use Rattle.std.specs.List.{find}
use Rattle.std.specs.Option.{option_and_then}
use Rattle.model.specs.declared.mode.Mode.{Mode}
use Rattle.model.specs.declared.mode.Mode.TheVariants.{Service, Run}
use Rattle.model.specs.declared.verb.Verb.{Verb}
use Rattle.model.specs.declared.verb.Verb.TheVariants.{Source, Derivation, Offer, Fetch, Trust, Distrust, Pin, Unpin, Closure, Take, Build, Status, Plan, Start, Finish, Fail, Forget}
use Rattle.model.specs.declared.verb.WordKind.{WordKind}
use Rattle.model.specs.declared.verb.WordKind.TheVariants as kind
use Rattle.model.specs.Archives.{Tree}
use Rattle.model.specs.Events.{Request}
use Rattle.model.specs.Events as events
use Rattle.model.specs.Words.{IsTreeText, IsOutputText, number_in}

-- the word that it is in a line
abbrev pub word_of : Verb → List ℕ
word_of Source = codes "source"
word_of Derivation = codes "derivation"
word_of Offer = codes "offer"
word_of Fetch = codes "fetch"
word_of Trust = codes "trust"
word_of Distrust = codes "distrust"
word_of Pin = codes "pin"
word_of Unpin = codes "unpin"
word_of Closure = codes "closure"
word_of Take = codes "take"
word_of Build = codes "build"
word_of Status = codes "status"
word_of Plan = codes "plan"
word_of Start = codes "start"
word_of Finish = codes "finish"
word_of Fail = codes "fail"
word_of Forget = codes "forget"

-- all of them
abbrev pub verbs : List Verb
verbs =
    Source ∷ Derivation ∷ Offer ∷ Fetch ∷ Trust ∷ Distrust ∷ Pin ∷ Unpin ∷ Closure ∷ Take
    ∷ Build ∷ Status ∷ Plan ∷ Start ∷ Finish ∷ Fail ∷ Forget ∷ []

-- the verb that a word is
abbrev pub verb_of : List ℕ → Option Verb
verb_of word = find (λ verb. bytes_eq word (word_of verb)) verbs

-- whether lines of the mode have the verb: in a run no line plans, starts or ends what is built
abbrev pub knows : Mode → Verb → Bool
knows Service verb = true
knows Run Plan = false
knows Run Start = false
knows Run Finish = false
knows Run Fail = false
knows Run verb = true

-- the verb that a word is in lines of the mode
abbrev pub verb_in : Mode → List ℕ → Option Verb
verb_in mode word = option_and_then (λ verb. if knows mode verb then Some verb else None) (verb_of word)

-- the kinds of the words behind it
abbrev pub kinds_of : Verb → List WordKind
kinds_of Source = kind.Name ∷ kind.Tree ∷ []
kinds_of Derivation = kind.Text ∷ []
kinds_of Offer = kind.Path ∷ kind.Tree ∷ []
kinds_of Fetch = kind.Path ∷ []
kinds_of Trust = kind.User ∷ []
kinds_of Distrust = kind.User ∷ []
kinds_of Pin = kind.Path ∷ kind.Path ∷ []
kinds_of Unpin = kind.Path ∷ []
kinds_of Closure = kind.Path ∷ []
kinds_of Take = kind.Path ∷ []
kinds_of Build = kind.Path ∷ []
kinds_of Status = kind.Number ∷ []
kinds_of Plan = kind.Number ∷ []
kinds_of Start = kind.Number ∷ []
kinds_of Finish = kind.Number ∷ kind.Output ∷ []
kinds_of Fail = kind.Number ∷ kind.ExitStatus ∷ []
kinds_of Forget = kind.Path ∷ kind.Path ∷ []

-- the request that it makes of its words
abbrev pub IsRequestOf : Verb → List (List ℕ) → Request → Type 0
IsRequestOf Source (name ∷ word ∷ []) request = (tree : Tree) × IsTreeText word tree × (request ≡ events.AddSource name tree)
IsRequestOf Derivation (text ∷ []) request = request ≡ events.AddDerivation text
IsRequestOf Offer (path ∷ word ∷ []) request = (tree : Tree) × IsTreeText word tree × (request ≡ events.Offer path tree)
IsRequestOf Fetch (path ∷ []) request = request ≡ events.Fetch path
IsRequestOf Trust (user ∷ []) request = request ≡ events.Trust user
IsRequestOf Distrust (user ∷ []) request = request ≡ events.Distrust user
IsRequestOf Pin (class ∷ path ∷ []) request = request ≡ events.Pin class path
IsRequestOf Unpin (class ∷ []) request = request ≡ events.Unpin class
IsRequestOf Closure (class ∷ []) request = request ≡ events.Closure class
IsRequestOf Take (class ∷ []) request = request ≡ events.Take class
IsRequestOf Build (path ∷ []) request = request ≡ events.Build path
IsRequestOf Status (number ∷ []) request = request ≡ events.Status (number_in number)
IsRequestOf Plan (number ∷ []) request = request ≡ events.Plan (number_in number)
IsRequestOf Start (number ∷ []) request = request ≡ events.Start (number_in number)
IsRequestOf Finish (number ∷ output ∷ []) request = (bytes : List ℕ) × IsOutputText output bytes × (request ≡ events.Finish (number_in number) bytes)
IsRequestOf Fail (number ∷ status ∷ []) request = request ≡ events.Fail (number_in number) (number_in status)
IsRequestOf Forget (class ∷ path ∷ []) request = request ≡ events.Forget class path
IsRequestOf verb words request = ⊥
