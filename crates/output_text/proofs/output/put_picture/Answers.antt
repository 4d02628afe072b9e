use Rattle.std.proofs.Common.{subst, sym}
use Rattle.frame_store.specs.declared.places.Places.{Places}
use Rattle.svg_text.specs.Points.{AreNear}
use Rattle.summary_text.proofs.LastFrames.{finished_ends}
use Rattle.summary_text.proofs.Nearness.{near_places}
use Rattle.output_text.proofs.Pictures.{as_text, picture_is}
use Rattle.output_text.proofs.output.put_picture.Goals as goal

pub write_svg-requires : goal.write_svg-requires
write_svg-requires g c =
    subst (λ (p : Places). AreNear p) (sym c.places-places.ensures.value)
    (near_places c.args.book.now.history c.args.book.now.budget c.history-legal.ensures.legal (finished_ends c.args.book.now.history c.requires))

pub returns : goal.returns
returns g c =
    as_text _ _ _ _ _ _ _
    (picture_is c.args.book.now.history (finished_ends c.args.book.now.history c.requires) c.scene-scene.result.now c.places-places.result.now c.scene-scene.ensures c.places-places.ensures.value)
    record {
      whole = c.write_svg.ensures.whole;
      part = c.write_svg.ensures.part;
      calm = c.write_svg.ensures.calm;
      failed = c.write_svg.ensures.failed;
      memory_calm = c.write_svg.ensures.memory_calm;
      never_falls = c.write_svg.ensures.never_falls;
    }
