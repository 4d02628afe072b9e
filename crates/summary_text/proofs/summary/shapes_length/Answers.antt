use Rattle.std.proofs.Common.{subst, sym}
use Rattle.frame_store.specs.declared.places.Places.{Places}
use Rattle.svg_text.specs.Points.{AreNear}
use Rattle.summary_text.proofs.Nearness.{near_places}
use Rattle.summary_text.proofs.summary.shapes_length.Goals as goal

pub shapes_span-requires : goal.shapes_span-requires
shapes_span-requires c =
    subst (λ (p : Places). AreNear p) (sym c.places.ensures.value) (near_places c.args.book.now.history c.args.book.now.budget c.history-legal.ensures.legal c.requires)
