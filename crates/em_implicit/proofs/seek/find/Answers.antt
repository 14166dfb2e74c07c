use Rattle.std.proofs.Common.{◌≡◌, ◌∙◌, sym, Result, Bool}
use Rattle.std.specs.Prelude.{IfOk, IfErr}
use Rattle.em_view.specs.declared.no.DeskNo.{DeskNo}
use Rattle.em_view.specs.declared.no.DeskNo.TheVariants as no
use Rattle.em_implicit.specs.declared.there.OnTree.{OnTree}
use Rattle.em_implicit.specs.Seeking.{stands}
use Rattle.em_implicit.proofs.Following.{told_on}
use Rattle.em_implicit.proofs.Told.{told_found}
use Rattle.em_implicit.proofs.seek.find.Goals as goal

pub returns-in-Ok-clause-found : goal.returns-in-Ok-clause-found
returns-in-Ok-clause-found c =
    let book = c.args.book.now in
    sym (told_on (λ (a b : OnTree) p (r : Result Bool DeskNo). (b ≡ a) × IfOk r (λ v. v ≡ stands a.tree.now p) × IfErr r (λ e. e ≡ no.NoMemory)) (λ (t : OnTree). stands t.tree.now) (λ a b p v h. (h.0, h.1)) c.in-Ok.ensures.asked)
    ∙ told_found book.rules c.args.tree.now c.args.cwd.now c.args.target.now book.patterns
