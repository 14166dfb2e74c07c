-- Which stops may come freely: those that come of an error that may.
use Rattle.std.proofs.Common.{◌≡◌, refl}
use Rattle.em_base.specs.declared.place.Place.{Place}
use Rattle.em_view.specs.declared.done.ExecNo.{ExecNo}
use Rattle.em_view.specs.declared.done.ExecNo.TheVariants as exec
use Rattle.em_view.specs.declared.no.DeskNo.{DeskNo}
use Rattle.em_view.specs.declared.no.DeskNo.TheVariants as desk
use Rattle.em_view.specs.Ends.{is_want}
use Rattle.em_view.specs.Rows.{is_memory}
use Rattle.em_expand.specs.declared.no.ExpandNo.{ExpandNo}
use Rattle.em_expand.specs.declared.no.ExpandNo.TheVariants as no
use Rattle.em_expand.specs.Desks as desks
use Rattle.em_job.specs.Stops.{is_free, early, of_desk, of_expand, of_line}

pub early_free : (e : DeskNo) → is_free (early e) ≡ is_memory e
early_free desk.NoMemory = refl
early_free desk.Spent = refl
early_free (desk.File f) = refl

pub desk_free : (p : Place) (e : DeskNo) → is_free (of_desk p e) ≡ is_memory e
desk_free p desk.NoMemory = refl
desk_free p desk.Spent = refl
desk_free p (desk.File f) = refl

pub expand_free : (p : Place) (e : ExpandNo) → is_free (of_expand p e) ≡ desks.is_free e
expand_free p (no.SelfReference n) = refl
expand_free p (no.UserError t) = refl
expand_free p (no.BadArgument n) = refl
expand_free p no.Unclosed = refl
expand_free p (no.Refused n) = refl
expand_free p no.Spent = refl
expand_free p no.TooDeep = refl
expand_free p no.NoMemory = refl

pub line_free : (p : Place) (e : ExecNo) → is_free (of_line p e) ≡ is_want e
line_free p exec.NoMemory = refl
line_free p exec.Spent = refl
line_free p (exec.Refused c) = refl
