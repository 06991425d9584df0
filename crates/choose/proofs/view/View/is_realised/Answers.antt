use Rattle.choose.proofs.RealisedLemmas.{realised_in}
use Rattle.choose.proofs.view.View.is_realised.Goals as goal

pub returns : goal.returns
returns c =
    realised_in c.args.self.now c.self.inside.table.now.sources c.self.inside.desks.items c.deref.result.now c.args.class.now c.is_realised.result c.self.view_is
    c.deref.ensures.value c.is_realised.ensures
