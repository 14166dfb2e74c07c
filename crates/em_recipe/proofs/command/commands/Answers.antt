use Rattle.std.proofs.Common.{◌≡◌, ◌∙◌, false, append_assoc, ap, arith, length, [], refl}
use Rattle.em_base.proofs.Lemmas.{none_at}
use Rattle.em_recipe.specs.Commands.{kept, lines_from, split, commands_of}
use Rattle.em_recipe.proofs.Lines.{line_ends, line_goes_on, is_plain}
use Rattle.em_recipe.proofs.command.commands.Goals as goal
use Rattle.em_recipe.proofs.command.commands.Goals.{then-byte-eq10+then-not-quoted+in_ok-add, else-byte-eq10}

pub loop-i-preserved : goal.loop-i-preserved
loop-i-preserved c =
    let front = c.marks_of-front.result in
    let text = c.args.expanded.now in
    let start = c.loop-i.start in
    let i = c.loop-i.i in
    elim c.if-byte-eq10.branch [
      | then-byte-eq10+then-not-quoted+in_ok-add w ↦ record {
        begun = omega arith;
        so_far = rw (w.commands-is, w.start-is, w.in_ok-add.ensures, append_assoc, ← line_ends front text start i _ c.loop-i.quoted c.loop-i-test.true refl w.if-byte-eq10.true w.if-not-quoted.true) c.loop-i.invariant.so_far;
      }
      | else-byte-eq10 w ↦ record {
        begun = omega arith;
        so_far = rw (w.commands-is, w.start-is, ← line_goes_on front text start i _ c.loop-i.quoted c.loop-i.invariant.begun c.loop-i-test.true refl (is_plain _ c.loop-i.quoted w.else-byte-eq10.either)) c.loop-i.invariant.so_far;
      }
    ]

pub returns : goal.returns
unfolding commands_of split
returns c =
    let text = c.args.expanded.now in
    let all : c.loop-i.i ≡ length text = omega arith in
    c.in_ok-add-2.ensures ∙ (rw (none_at text c.loop-i.i c.loop-i-test.false, all) at c.loop-i.invariant.so_far)
    ∙ ap (λ m. kept m (lines_from [] false text)) c.marks_of-front.ensures
