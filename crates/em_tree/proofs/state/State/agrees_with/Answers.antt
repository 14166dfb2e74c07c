use Rattle.std.proofs.Common.{◌↔◌, sym, subst, refl}
use Rattle.std.specs.Prelude.{IsTrue}
use Rattle.em_tree.specs.Answers.{Agrees}
use Rattle.em_tree.specs.Usages.{clear_links, entries_of}
use Rattle.em_tree.proofs.Keeping.{look-agrees, look-way, look-last, way_clear, if_ok}
use Rattle.em_tree.proofs.state.State.agrees_with.Goals as goal

pub returns-then-not-agrees : goal.returns-then-not-agrees
returns-then-not-agrees c =
    let t = c.if-not-agrees.true in
    (λ f. absurd (cc), λ a. let b = c.agrees.ensures.1 (look-last c.args.self.now c.args.look.now a) in absurd (cc))

pub returns-then-is_bare : goal.returns-then-is_bare
returns-then-is_bare c =
    let s = c.args.self.now in let l = c.args.look.now in
    (λ t. look-agrees s l (way_clear s (c.is_bare.ensures c.if-is_bare.true) l.clear _) (c.agrees.ensures.0 c.if-not-agrees.false), λ a. refl)

pub returns : goal.returns
returns c =
    let s = c.args.self.now in let l = c.args.look.now in
    if_ok c.is_clear.result
    (λ b. IsTrue b ↔ Agrees s (clear_links c.in_ok-way.n c.in_ok-way.way)) (λ b. IsTrue b ↔ Agrees s (entries_of l))
    (λ b h. (
      λ t. look-agrees s l (subst (Agrees s) (sym c.in_ok-way.ensures) (h.0 t)) (c.agrees.ensures.0 c.if-not-agrees.false),
      λ a. h.1 (subst (Agrees s) c.in_ok-way.ensures (look-way s l a)),
    )) c.is_clear.ensures
