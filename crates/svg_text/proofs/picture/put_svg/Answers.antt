use Rattle.std.proofs.Common.{◌∙◌, ap₂}
use Rattle.svg_text.specs.Steps.{picture_text}
use Rattle.svg_text.proofs.Parts.{picture_parts}
use Rattle.svg_text.proofs.Puts.{as_text}
use Rattle.svg_text.proofs.picture.put_svg.Goals as goal

pub returns : goal.returns
returns g c =
    as_text _ _ _ _ _ _ _ _
    (ap₂ (picture_text c.args.scene.now c.args.places.now) c.shown-x.ensures.value c.shown-y.ensures.value ∙ picture_parts c.args.scene.now c.args.places.now)
    c.put_picture.ensures
