use Rattle.std.proofs.Common.{◌+◌, ◌*◌, [], drop, map, List, ℕ, Bor}
use Rattle.em_view.proofs.Doing.{Goes}
use Rattle.em_expand.specs.Desks.{is_free}
use Rattle.em_expand.specs.Scopes.{frames_of}
use Rattle.em_expand.specs.Expansion.{setting_of, expand_text, reference, put_parts, until, turns, arguments}
use Rattle.em_expand.proofs.text.+expander.Given as goal

abbrev pub decreases-expand_text : goal.decreases-expand_text
decreases-expand_text g l = 8 * l.left + 1

abbrev pub decreases-put_part : goal.decreases-put_part
decreases-put_part g l = 8 * l.left

abbrev pub decreases-evaluate : goal.decreases-evaluate
decreases-evaluate g l = 8 * l.left + 6

abbrev pub decreases-put_call : goal.decreases-put_call
decreases-put_call g l = 8 * l.left + 5

abbrev pub decreases-named : goal.decreases-named
decreases-named g l = 8 * l.left + 5

abbrev pub decreases-foreach : goal.decreases-foreach
decreases-foreach g l = 8 * l.left + 4

abbrev pub decreases-choose : goal.decreases-choose
decreases-choose g l = 8 * l.left + 4

abbrev pub decreases-until : goal.decreases-until
decreases-until g l = 8 * l.left + 4

abbrev pub decreases-variable : goal.decreases-variable
decreases-variable g l = 8 * l.left + 4

abbrev pub decreases-call : goal.decreases-call
decreases-call g l = 8 * l.left + 4

abbrev pub decreases-arguments : goal.decreases-arguments
decreases-arguments g l = 8 * l.left + 4

abbrev pub decreases-turns : goal.decreases-turns
decreases-turns g l = 8 * l.left + 3

-- ---- whatever goes on with the rest goes on with the whole

abbrev pub invariant-expand_text-loop-part : goal.invariant-expand_text-loop-part
invariant-expand_text-loop-part g l = Goes is_free g.V.View.tells l.initial.desk l.desk l.initial.spoken l.spoken
    (put_parts (reference l.left (setting_of l.setting) (frames_of l.scope)) l.text l.unclosed l.part-items l.initial.out)
    (put_parts (reference l.left (setting_of l.setting) (frames_of l.scope)) l.text l.unclosed (drop l.part-index l.part-items) l.out)

abbrev pub invariant-until-loop-arg : goal.invariant-until-loop-arg
invariant-until-loop-arg g l = Goes is_free g.V.View.tells l.initial.desk l.desk l.initial.spoken l.spoken
    (until (expand_text l.left (setting_of l.setting)) (frames_of l.scope) l.filled (map (λ (a : Bor (List ℕ)). a.now) l.args) [] l.initial.out)
    (until (expand_text l.left (setting_of l.setting)) (frames_of l.scope) l.filled (map (λ (a : Bor (List ℕ)). a.now) (drop l.arg-index l.args)) l.last l.out)

abbrev pub invariant-turns-loop-word : goal.invariant-turns-loop-word
invariant-turns-loop-word g l = Goes is_free g.V.View.tells l.initial.desk l.desk l.initial.spoken l.spoken
    (turns (expand_text l.left (setting_of l.setting)) (frames_of l.scope) l.name l.text (map (λ (w : Bor (List ℕ)). w.now) l.words) [] l.initial.out)
    (turns (expand_text l.left (setting_of l.setting)) (frames_of l.scope) l.name l.text (map (λ (w : Bor (List ℕ)). w.now) (drop l.word-index l.words)) l.gap l.out)

abbrev pub invariant-arguments-loop-arg : goal.invariant-arguments-loop-arg
invariant-arguments-loop-arg g l = Goes is_free g.V.View.tells l.initial.desk l.desk l.initial.spoken l.spoken
    (arguments (expand_text l.left (setting_of l.setting)) (frames_of l.scope) (map (λ (a : Bor (List ℕ)). a.now) l.args) [])
    (arguments (expand_text l.left (setting_of l.setting)) (frames_of l.scope) (map (λ (a : Bor (List ℕ)). a.now) (drop l.arg-index l.args)) l.values)
