use Rattle.std.proofs.Common.{◌≡◌, ◌∙◌, sym, refl, map, Some, [], ◌∷◌, arith, true, false}
use Rattle.em_grammar.specs.Production.{refused, ◌⨾◌}
use Rattle.em_grammar.specs.Gives.{lead_off}
use Rattle.em_grammar.proofs.Giving.{then_on, then_off, then_exit, left_on, right_on, gives_left, gives_right, reads_empty, reads_last, end_many, end_more, exit_many, exit_many_then, exit_sep, exit_row, turn_on, turn_off, begun, is_refused, passes_left, passes_right, passes_then, moves_many, moves_past, moves_then}
use Rattle.em_token.specs.Kinds.{kinds, whats, words, reserved_words}
use Rattle.em_gram.specs.Nesting.{nest_depth}
use Rattle.em_token.specs.Shell.{shell, arguments, key, newlines, sequential, reserved, item_end, function}
use Rattle.em_gram.specs.Patterns.{any_word, word_spelling, redirect_pattern, assigned_pattern, and_or_pattern, joined_pattern, command_pattern, branch_pattern, item_pattern}
use Rattle.em_token.specs.declared.kind.Kind.TheVariants.{Pipe, Elif, WordEnd, Name, Plain, Assignment, LeftParen}
use Rattle.em_token.proofs.Checked.{shell_firm}
use Rattle.em_gram.proofs.Nested.{word_pattern}
use Rattle.em_gram.proofs.Parts.{inner_gives, inner_on, assoc_both, row_end, start_parted, start_after, start_patterns, step_all, step_parted, step_after, step_row, step_patterns, end_row, listed}
use Rattle.em_token.proofs.Tokens.{off}
use Rattle.em_gram.proofs.Choices.{words_map, file_target, respelled, rows_of_items, first_left, first_right, simple_words, simple_behind, shorter_whats}
use Rattle.em_gram.proofs.Starting.{begins_key, spelled_redirect, not_begins, redirect_begins}
use Rattle.em_gram.proofs.Mixed.{exit_gives, exit_step, passes_of, moved, still_open, no_more, open_moves, close_moves, piece_moves, piece_exit, piece_next, end_is_open, part_spelled, one_word, one_redirect, one_assigned, first_alone, first_behind, no_word, then_passed, moves_on, moves_end, moves_exit, no_argument, not_wrong, go_at, some_first, no_assignment, none_open, one_there, last_of}
use Rattle.em_gram.proofs.Spellings.{script_made, and_or_made, joined_made, pipeline_made, assigned_made, branch_made, if_made, loop_made, for_made, case_made, item_made, command_Simple, command_Compound, compound_Subshell, compound_Group, compound_If, compound_Loop, compound_For, compound_Case}
use Rattle.em_gram.proofs.parser.+parser.Goals as goal

pub word_rest-loop-alloc-init : goal.word_rest-loop-alloc-init
word_rest-loop-alloc-init t c = record { within = omega arith; counted = c.new-nest.ensures.counted; turns = rw (c.new-nest.ensures.parts, c.new-nest.ensures.depth) (begun shell c.args.left _ _) }

pub word_rest-returns-in_err-behind-clause-reads : goal.word_rest-returns-in_err-behind-clause-reads
word_rest-returns-in_err-behind-clause-reads t c = off c.args.left _ _ _ _ _ c.from_residual.ensures (turn_off shell (c.loop-alloc.invariant.turns) _ (c.in_err-behind.ensures.err (key WordEnd)))

pub word_rest-loop-alloc-preserved : goal.word_rest-loop-alloc-preserved
word_rest-loop-alloc-preserved t c = record { counted = c.in_ok-behind.ensures.counted; within = omega (arith, c.loop-alloc.invariant.within, c.in_ok-behind.ensures.shorter); turns = moved c.loop-alloc.invariant.turns (c.in_ok-behind.ensures.moves (key WordEnd)) _ (c.in_ok-behind.ensures.spells _ c.loop-alloc.invariant.turns.spells) }

pub word_rest-returns-then-is_open-clause-reads : goal.word_rest-returns-then-is_open-clause-reads
word_rest-returns-then-is_open-clause-reads t c = turn_off shell c.loop-alloc.invariant.turns (Some (0, whats c.loop-alloc.rest.now)) (still_open c.args.left _ (key WordEnd) _ (sym c.is_open-2.ensures ∙ c.if-is_open.true) (go_at (whats c.loop-alloc.rest.now) false _ true (c.is_open.ensures ∙ sym c.is_open-2.ensures ∙ c.if-is_open.true) (sym c.goes_on.ensures ∙ c.loop-alloc-test.false)))

pub word_rest-returns-in_err-last-clause-reads : goal.word_rest-returns-in_err-last-clause-reads
word_rest-returns-in_err-last-clause-reads t c = off c.args.left _ _ _ _ _ c.from_residual-in_err-last.ensures (turn_off shell (no_more _ (sym c.is_open-2.ensures ∙ c.if-is_open.false) (go_at (whats c.loop-alloc.rest.now) false _ false (c.is_open.ensures ∙ sym c.is_open-2.ensures ∙ c.if-is_open.false) (sym c.goes_on.ensures ∙ c.loop-alloc-test.false)) c.loop-alloc.invariant.turns) _ (c.in_err-last.ensures.reads c.args.left))

pub word_rest-word_step-requires : goal.word_rest-word_step-requires
word_rest-word_step-requires t c = (omega (arith, c.decreases), (go_at (whats c.loop-alloc.rest.now) true _ _ c.is_open.ensures (sym c.goes_on.ensures ∙ c.loop-alloc-test.true), c.loop-alloc.invariant.counted))

pub word_rest-into_pieces-pieces-requires : goal.word_rest-into_pieces-pieces-requires
word_rest-into_pieces-pieces-requires t c = record { none = none_open _ (sym c.is_open-2.ensures ∙ c.if-is_open.false); counted = c.loop-alloc.invariant.counted }

pub word_rest-returns-clause-reads : goal.word_rest-returns-clause-reads
word_rest-returns-clause-reads t c = rw (word_pattern c.into_pieces-pieces.result c.into_pieces-pieces.ensures.closed, c.into_pieces-pieces.ensures.parts) (turn_on shell (no_more _ (sym c.is_open-2.ensures ∙ c.if-is_open.false) (go_at (whats c.loop-alloc.rest.now) false _ false (c.is_open.ensures ∙ sym c.is_open-2.ensures ∙ c.if-is_open.false) (sym c.goes_on.ensures ∙ c.loop-alloc-test.false)) c.loop-alloc.invariant.turns) (c.in_ok-last.ensures.reads c.args.left))

pub word_step-returns-in_err-begin-clause-err : goal.word_step-returns-in_err-begin-clause-err
word_step-returns-in_err-begin-clause-err t c = exit_step c.args.left _ _ _ _ c.from_residual.ensures (λ g. rw (c.in_err-begin.ensures.free (sym c.opens.ensures ∙ c.if-opens.true)) tt)

pub word_step-returns-then-opens-clause-moves : goal.word_step-returns-then-opens-clause-moves
word_step-returns-then-opens-clause-moves t c = λ g. open_moves c.args.left _ _ g _ _ c.in_ok-enter.ensures.depth c.in_ok-begin.ensures.lexeme

pub word_step-returns-then-opens-clause-spells : goal.word_step-returns-then-opens-clause-spells
word_step-returns-then-opens-clause-spells t c = λ start h. part_spelled _ _ _ start _ _ c.in_ok-enter.ensures.parts (c.in_ok-begin.ensures.reads c.args.left).spells h

pub word_step-returns-in_err-rest-clause-err : goal.word_step-returns-in_err-rest-clause-err
word_step-returns-in_err-rest-clause-err t c = exit_step c.args.left _ _ _ _ c.from_residual-in_err-rest.ensures (λ g. absurd (not_wrong c.in_err-rest.ensures.wrong (sym c.opens-2.ensures ∙ c.if-opens-2.true)))

pub word_step-returns-then-opens-2-clause-moves : goal.word_step-returns-then-opens-2-clause-moves
word_step-returns-then-opens-2-clause-moves t c = λ g. close_moves c.args.left _ _ g _ _ c.in_ok-leave.ensures.depth (c.in_ok-rest.ensures.reads c.args.left).spells

pub word_step-returns-then-opens-2-clause-spells : goal.word_step-returns-then-opens-2-clause-spells
word_step-returns-then-opens-2-clause-spells t c = λ start h. part_spelled _ _ _ start _ _ c.in_ok-leave.ensures.parts (c.in_ok-rest.ensures.reads c.args.left).spells h

pub word_step-leave-requires : goal.word_step-leave-requires
word_step-leave-requires t c = record { counted = c.requires.counted; some = end_is_open (nest_depth c.args.nest.now) (whats c.args.tokens.now) c.requires.goes_on (sym c.opens-2.ensures ∙ c.if-opens-2.true) }

pub word_step-returns-in_err-next-clause-err : goal.word_step-returns-in_err-next-clause-err
word_step-returns-in_err-next-clause-err t c = exit_step c.args.left _ _ _ _ c.from_residual-in_err-next.ensures (λ g. piece_exit c.args.left _ g _ (piece_next (nest_depth c.args.nest.now) (whats c.args.tokens.now) c.requires.goes_on (sym c.opens.ensures ∙ c.if-opens.false) (sym c.opens-2.ensures ∙ c.if-opens-2.false)) _ c.in_err-next.ensures.reads)

pub word_step-returns-clause-moves : goal.word_step-returns-clause-moves
word_step-returns-clause-moves t c = λ g. piece_moves c.args.left _ _ g _ _ _ c.in_ok-add.ensures.depth (piece_next (nest_depth c.args.nest.now) (whats c.args.tokens.now) c.requires.goes_on (sym c.opens.ensures ∙ c.if-opens.false) (sym c.opens-2.ensures ∙ c.if-opens-2.false)) c.in_ok-next.ensures.reads

pub word_step-returns-clause-spells : goal.word_step-returns-clause-spells
word_step-returns-clause-spells t c = λ start h. part_spelled _ _ _ start _ _ c.in_ok-add.ensures.parts c.in_ok-next.ensures.reads.spells h

pub piece-returns-in_err-simple-clause-reads : goal.piece-returns-in_err-simple-clause-reads
piece-returns-in_err-simple-clause-reads t c = off c.args.left _ _ _ _ _ c.from_residual.ensures (gives_left shell c.args.left _ _ _ _ (sym c.opens.ensures ∙ c.if-opens.true) (c.in_err-simple.ensures.reads c.args.left))

pub piece-returns-then-opens-clause-reads : goal.piece-returns-then-opens-clause-reads
piece-returns-then-opens-clause-reads t c = left_on shell (sym c.opens.ensures ∙ c.if-opens.true) (c.in_ok-simple.ensures.reads c.args.left)

pub piece-returns-in_err-output-clause-reads : goal.piece-returns-in_err-output-clause-reads
piece-returns-in_err-output-clause-reads t c = off c.args.left _ _ _ _ _ c.from_residual-in_err-output.ensures (gives_right shell c.args.left _ _ _ _ refl (sym c.opens.ensures ∙ c.if-opens.false) (c.in_err-output.ensures.reads))

pub piece-returns-clause-reads : goal.piece-returns-clause-reads
piece-returns-clause-reads t c = right_on shell refl (sym c.opens.ensures ∙ c.if-opens.false) (c.in_ok-output.ensures.reads)

pub output-returns-in_err-quoted-clause-reads : goal.output-returns-in_err-quoted-clause-reads
output-returns-in_err-quoted-clause-reads t c = off c.args.left _ _ _ _ _ c.from_residual.ensures (c.in_err-quoted.ensures.err _)

pub output-returns-in_err-script-clause-reads : goal.output-returns-in_err-script-clause-reads
output-returns-in_err-script-clause-reads t c = off c.args.left _ _ _ _ _ c.from_residual-in_err-script.ensures (turn_off shell (c.in_ok-quoted.ensures.turns _) _ (then_off shell _ (c.newlines-rest.ensures.reads c.args.left) _ (then_exit shell c.args.left _ _ _ _ (c.in_err-script.ensures.reads))))

pub output-returns-in_err-rest-clause-reads : goal.output-returns-in_err-rest-clause-reads
output-returns-in_err-rest-clause-reads t c = off c.args.left _ _ _ _ _ c.from_residual-in_err-rest.ensures (turn_off shell (c.in_ok-quoted.ensures.turns _) _ (then_off shell _ (c.newlines-rest.ensures.reads c.args.left) _ (then_off shell _ (c.in_ok-script.ensures.reads) _ (c.in_err-rest.ensures.reads c.args.left))))

pub output-returns-clause-reads : goal.output-returns-clause-reads
output-returns-clause-reads t c = respelled (turn_on shell (c.in_ok-quoted.ensures.turns _) (then_on shell (c.newlines-rest.ensures.reads c.args.left) (then_on shell (c.in_ok-script.ensures.reads) (c.in_ok-rest.ensures.reads c.args.left)))) c.output_piece.ensures.spells

pub word-returns-in_err-rest-clause-reads : goal.word-returns-in_err-rest-clause-reads
word-returns-in_err-rest-clause-reads t c = off c.args.left _ _ _ _ _ c.from_residual.ensures (then_exit shell c.args.left _ _ _ _ (c.in_err-rest.ensures.reads c.args.left))

pub word-returns-in_err-word-clause-reads : goal.word-returns-in_err-word-clause-reads
word-returns-in_err-word-clause-reads t c = off c.args.left _ _ _ _ _ c.from_residual-in_err-word.ensures (then_off shell _ (c.in_ok-rest.ensures.reads c.args.left) _ (c.in_err-word.ensures.reads))

pub word-returns-clause-reads : goal.word-returns-clause-reads
word-returns-clause-reads t c = then_on shell (c.in_ok-rest.ensures.reads c.args.left) (c.in_ok-word.ensures.reads)

pub words-loop-alloc-init : goal.words-loop-alloc-init
words-loop-alloc-init t c = record { within = omega arith; turns = rw c.new-words.ensures.items (begun shell c.args.left _ _) }

pub words-returns-in_err-next-clause-reads : goal.words-returns-in_err-next-clause-reads
words-returns-in_err-next-clause-reads t c = off c.args.left _ _ _ _ _ c.from_residual.ensures (exit_many shell shell_firm c.loop-alloc.invariant.turns refl (sym c.opens_word.ensures ∙ c.loop-alloc-test.true) _ (c.in_err-next.ensures.reads))

pub words-loop-alloc-preserved : goal.words-loop-alloc-preserved
words-loop-alloc-preserved t c = record { within = omega (arith, c.loop-alloc.invariant.within, c.in_ok-next.ensures.shorter); turns = step_all (λ w. any_word (word_spelling w)) c.loop-alloc.words.items c.loop-alloc.invariant.turns refl (sym c.opens_word.ensures ∙ c.loop-alloc-test.true) c.in_ok-next.ensures.reads c.in_ok-push.ensures.items }

pub words-returns-clause-reads : goal.words-returns-clause-reads
words-returns-clause-reads t c = rw (words_map c.loop-alloc.words.items) (end_many shell c.loop-alloc.invariant.turns (sym c.opens_word.ensures ∙ c.loop-alloc-test.false))

pub target-returns-in_err-kind-clause-reads : goal.target-returns-in_err-kind-clause-reads
target-returns-in_err-kind-clause-reads t c = off c.args.left _ _ _ _ _ c.from_residual.ensures (gives_left shell c.args.left _ _ _ _ (sym c.opens.ensures ∙ c.if-opens.true) (then_exit shell c.args.left _ _ _ _ (c.in_err-kind.ensures.reads c.args.left)))

pub target-returns-in_err-target-clause-reads : goal.target-returns-in_err-target-clause-reads
target-returns-in_err-target-clause-reads t c = off c.args.left _ _ _ _ _ c.from_residual-in_err-target.ensures (gives_left shell c.args.left _ _ _ _ (sym c.opens.ensures ∙ c.if-opens.true) (then_off shell _ (c.in_ok-kind.ensures.reads c.args.left) _ (c.in_err-target.ensures.reads)))

pub target-returns-then-opens-clause-reads : goal.target-returns-then-opens-clause-reads
target-returns-then-opens-clause-reads t c = left_on shell (sym c.opens.ensures ∙ c.if-opens.true) (file_target c.in_ok-kind.kind c.in_ok-target.target c.in_ok-kind.ensures.file (then_on shell (c.in_ok-kind.ensures.reads c.args.left) (c.in_ok-target.ensures.reads)))

pub target-returns-in_err-digit-clause-reads : goal.target-returns-in_err-digit-clause-reads
target-returns-in_err-digit-clause-reads t c = off c.args.left _ _ _ _ _ c.from_residual-in_err-digit.ensures (gives_right shell c.args.left _ _ _ _ refl (sym c.opens.ensures ∙ c.if-opens.false) (c.in_err-digit.ensures.reads c.args.left))

pub target-returns-clause-reads : goal.target-returns-clause-reads
target-returns-clause-reads t c = right_on shell refl (sym c.opens.ensures ∙ c.if-opens.false) (c.in_ok-digit.ensures.reads c.args.left)

pub redirect-returns-in_err-number-clause-reads : goal.redirect-returns-in_err-number-clause-reads
redirect-returns-in_err-number-clause-reads t c = off c.args.left _ _ _ _ _ c.from_residual.ensures (then_exit shell c.args.left _ _ _ _ (c.in_err-number.ensures.reads c.args.left))

pub redirect-returns-in_err-found-clause-reads : goal.redirect-returns-in_err-found-clause-reads
redirect-returns-in_err-found-clause-reads t c = off c.args.left _ _ _ _ _ c.from_residual-in_err-found.ensures (then_off shell _ (c.in_ok-number.ensures.reads c.args.left) _ (c.in_err-found.ensures.reads))

pub redirect-returns-clause-reads : goal.redirect-returns-clause-reads
redirect-returns-clause-reads t c = respelled (then_on shell (c.in_ok-number.ensures.reads c.args.left) (c.in_ok-found.ensures.reads)) c.redirection.ensures

pub redirects-loop-alloc-init : goal.redirects-loop-alloc-init
redirects-loop-alloc-init t c = record { within = omega arith; turns = rw c.new-redirects.ensures.items (begun shell c.args.left _ _) }

pub redirects-returns-in_err-next-clause-reads : goal.redirects-returns-in_err-next-clause-reads
redirects-returns-in_err-next-clause-reads t c = off c.args.left _ _ _ _ _ c.from_residual.ensures (exit_many shell shell_firm c.loop-alloc.invariant.turns refl (sym c.opens_redirect.ensures ∙ c.loop-alloc-test.true) _ (c.in_err-next.ensures.reads))

pub redirects-loop-alloc-preserved : goal.redirects-loop-alloc-preserved
redirects-loop-alloc-preserved t c = record { within = omega (arith, c.loop-alloc.invariant.within, c.in_ok-next.ensures.shorter); turns = step_all redirect_pattern c.loop-alloc.redirects.items c.loop-alloc.invariant.turns refl (sym c.opens_redirect.ensures ∙ c.loop-alloc-test.true) c.in_ok-next.ensures.reads c.in_ok-push.ensures.items }

pub redirects-returns-clause-reads : goal.redirects-returns-clause-reads
redirects-returns-clause-reads t c = end_many shell c.loop-alloc.invariant.turns (sym c.opens_redirect.ensures ∙ c.loop-alloc-test.false)

pub assigned-returns-in_err-rest-clause-reads : goal.assigned-returns-in_err-rest-clause-reads
assigned-returns-in_err-rest-clause-reads t c = off c.args.left _ _ _ _ _ c.from_residual.ensures (then_exit shell c.args.left _ _ _ _ (c.in_err-rest.ensures.reads c.args.left))

pub assigned-returns-in_err-name-clause-reads : goal.assigned-returns-in_err-name-clause-reads
assigned-returns-in_err-name-clause-reads t c = off c.args.left _ _ _ _ _ c.from_residual-in_err-name.ensures (then_off shell _ (c.in_ok-rest.ensures.reads c.args.left) _ (then_exit shell c.args.left _ _ _ _ (c.in_err-name.ensures.reads c.args.left)))

pub assigned-returns-in_err-value-clause-reads : goal.assigned-returns-in_err-value-clause-reads
assigned-returns-in_err-value-clause-reads t c = off c.args.left _ _ _ _ _ c.from_residual-in_err-value.ensures (then_off shell _ (c.in_ok-rest.ensures.reads c.args.left) _ (then_off shell _ (c.in_ok-name.ensures.reads c.args.left) _ (c.in_err-value.ensures.reads)))

pub assigned-returns-clause-reads : goal.assigned-returns-clause-reads
assigned-returns-clause-reads t c = rw (assigned_made c.in_ok-name.name c.in_ok-value.value) (then_on shell (c.in_ok-rest.ensures.reads c.args.left) (then_on shell (c.in_ok-name.ensures.reads c.args.left) (c.in_ok-value.ensures.reads)))

pub argument-returns-in_err-next-clause-err : goal.argument-returns-in_err-next-clause-err
argument-returns-in_err-next-clause-err t c = exit_gives c.args.left _ _ _ _ c.from_residual.ensures (gives_left shell c.args.left _ _ _ _ (sym c.opens_word.ensures ∙ c.if-opens_word.true) (c.in_err-next.ensures.reads))

pub argument-returns-then-opens_word-clause-passes : goal.argument-returns-then-opens_word-clause-passes
argument-returns-then-opens_word-clause-passes t c = passes_left shell (sym c.opens_word.ensures ∙ c.if-opens_word.true) (passes_of c.in_ok-next.ensures.reads)

pub argument-returns-then-opens_word-clause-spells : goal.argument-returns-then-opens_word-clause-spells
argument-returns-then-opens_word-clause-spells t c = λ start assigned n h. one_word start assigned _ _ c.in_ok-next.next _ _ _ n c.in_ok-push.ensures.items c.in_ok-next.ensures.reads.spells h

pub argument-returns-then-opens_word-clause-some : goal.argument-returns-then-opens_word-clause-some
argument-returns-then-opens_word-clause-some t c = λ n. one_there _ _ _ c.in_ok-push.ensures.items

pub argument-returns-in_err-next-2-clause-err : goal.argument-returns-in_err-next-2-clause-err
argument-returns-in_err-next-2-clause-err t c = exit_gives c.args.left _ _ _ _ c.from_residual-in_err-next-2.ensures (gives_right shell c.args.left _ _ _ _ refl (sym c.opens_word.ensures ∙ c.if-opens_word.false) (c.in_err-next-2.ensures.reads))

pub argument-returns-clause-passes : goal.argument-returns-clause-passes
argument-returns-clause-passes t c = passes_right shell refl (sym c.opens_word.ensures ∙ c.if-opens_word.false) (passes_of c.in_ok-next-2.ensures.reads)

pub argument-returns-clause-spells : goal.argument-returns-clause-spells
argument-returns-clause-spells t c = λ start assigned n h. one_redirect start assigned _ _ _ c.in_ok-next-2.next _ _ c.in_ok-push-2.ensures.items c.in_ok-next-2.ensures.reads.spells h

pub arguments-loop-alloc-init : goal.arguments-loop-alloc-init
arguments-loop-alloc-init t c = record { within = omega arith; moves = record { goes = λ S. refl }; spells = λ start assigned n h. h; some = λ n. n }

pub arguments-returns-in_err-behind-clause-err : goal.arguments-returns-in_err-behind-clause-err
arguments-returns-in_err-behind-clause-err t c = exit_gives c.args.left _ _ _ _ c.from_residual.ensures (moves_exit c.loop-alloc.invariant.moves _ (then_exit shell c.args.left _ _ _ _ (exit_many shell shell_firm (begun shell c.args.left _ _) refl (sym c.opens_argument.ensures ∙ c.loop-alloc-test.true) _ c.in_err-behind.ensures.err)))

pub arguments-loop-alloc-preserved : goal.arguments-loop-alloc-preserved
arguments-loop-alloc-preserved t c = record { within = omega (arith, c.loop-alloc.invariant.within, c.in_ok-behind.ensures.shorter); moves = moves_on c.loop-alloc.invariant.moves (moves_many shell shell_firm refl (sym c.opens_argument.ensures ∙ c.loop-alloc-test.true) c.in_ok-behind.ensures.passes); spells = λ start assigned n h. c.in_ok-behind.ensures.spells start assigned (c.loop-alloc.invariant.some n) (c.loop-alloc.invariant.spells start assigned n h); some = λ n. c.in_ok-behind.ensures.some (c.loop-alloc.invariant.some n) }

pub arguments-returns-clause-passes : goal.arguments-returns-clause-passes
arguments-returns-clause-passes t c = moves_end c.loop-alloc.invariant.moves (no_argument (sym c.opens_argument.ensures ∙ c.loop-alloc-test.false))

pub arguments-returns-clause-last : goal.arguments-returns-clause-last
arguments-returns-clause-last t c = last_of (whats c.loop-alloc.rest.now) (sym c.opens_argument.ensures ∙ c.loop-alloc-test.false)

pub arguments-returns-clause-spells : goal.arguments-returns-clause-spells
arguments-returns-clause-spells t c = c.loop-alloc.invariant.spells

pub with_arguments-returns-in_err-rest-clause-err : goal.with_arguments-returns-in_err-rest-clause-err
with_arguments-returns-in_err-rest-clause-err t c = exit_gives c.args.left _ _ _ _ c.from_residual-in_err-rest.ensures c.in_err-rest.ensures.err

pub with_arguments-returns-clause-passes : goal.with_arguments-returns-clause-passes
with_arguments-returns-clause-passes t c = c.in_ok-rest.ensures.passes

pub with_arguments-returns-clause-spells : goal.with_arguments-returns-clause-spells
with_arguments-returns-clause-spells t c = λ start b h. let n = some_first _ _ _ c.new-words.ensures.items c.in_ok-push.ensures.items in simple_words _ _ _ _ start _ b c.in_ok-rest.ensures.last (c.in_ok-rest.ensures.some n) (c.in_ok-rest.ensures.spells start (map assigned_pattern c.args.assigned.items) n (rw (c.in_ok-push.ensures.items, c.new-words.ensures.items) h))

pub named-returns-in_err-rest-clause-reads : goal.named-returns-in_err-rest-clause-reads
named-returns-in_err-rest-clause-reads t c = off c.args.left _ _ _ _ _ c.from_residual.ensures (then_exit shell c.args.left _ _ _ _ (then_exit shell c.args.left _ _ _ _ (c.in_err-rest.ensures.reads c.args.left)))

pub named-returns-in_err-first-clause-reads : goal.named-returns-in_err-first-clause-reads
named-returns-in_err-first-clause-reads t c = off c.args.left _ _ _ _ _ c.from_residual-in_err-first.ensures (then_exit shell c.args.left _ _ _ _ (then_off shell _ (c.in_ok-rest.ensures.reads c.args.left) _ (c.in_err-first.ensures.reads)))

pub named-returns-then-opens-clause-reads : goal.named-returns-then-opens-clause-reads
named-returns-then-opens-clause-reads t c = then_off shell _ (then_on shell (c.in_ok-rest.ensures.reads c.args.left) (c.in_ok-first.ensures.reads)) (Some (function, whats c.in_ok-first.rest.now)) (gives_left shell c.args.left (refused (kinds (LeftParen ∷ [])) function) arguments (whats c.in_ok-first.rest.now) (lead_off (Some (function, whats c.in_ok-first.rest.now))) (sym c.opens.ensures ∙ c.if-opens.true) (is_refused shell c.args.left (kinds (LeftParen ∷ [])) function (whats c.in_ok-first.rest.now) (sym c.opens.ensures ∙ c.if-opens.true)))

pub named-returns-in_err-simple-clause-reads : goal.named-returns-in_err-simple-clause-reads
named-returns-in_err-simple-clause-reads t c = off c.args.left _ _ _ _ _ c.from_residual-in_err-simple.ensures (then_off shell _ (then_on shell (c.in_ok-rest.ensures.reads c.args.left) (c.in_ok-first.ensures.reads)) _ (gives_right shell c.args.left _ _ _ _ refl (sym c.opens.ensures ∙ c.if-opens.false) (c.in_err-simple.ensures.err)))

pub named-returns-clause-reads : goal.named-returns-clause-reads
named-returns-clause-reads t c = then_passed (then_on shell (c.in_ok-rest.ensures.reads c.args.left) (c.in_ok-first.ensures.reads)) (passes_right shell refl (sym c.opens.ensures ∙ c.if-opens.false) c.in_ok-simple.ensures.passes) (c.in_ok-simple.ensures.spells _ (not_begins reserved_words (kinds (Name ∷ [])) refl (whats c.args.tokens.now) (begins_key (kinds (Name ∷ [])) (λ us. us ≡ whats c.in_ok-rest.rest.now) (whats c.args.tokens.now) (c.in_ok-rest.ensures.reads c.args.left).spells)) (rw (c.new.ensures.items, c.new-2.ensures.items) (first_alone (kinds (Name ∷ [])) refl c.in_ok-first.first _ _ (then_on shell (c.in_ok-rest.ensures.reads c.args.left) (c.in_ok-first.ensures.reads)).spells)))

pub plain-returns-in_err-rest-clause-reads : goal.plain-returns-in_err-rest-clause-reads
plain-returns-in_err-rest-clause-reads t c = off c.args.left _ _ _ _ _ c.from_residual.ensures (then_exit shell c.args.left _ _ _ _ (then_exit shell c.args.left _ _ _ _ (c.in_err-rest.ensures.reads c.args.left)))

pub plain-returns-in_err-first-clause-reads : goal.plain-returns-in_err-first-clause-reads
plain-returns-in_err-first-clause-reads t c = off c.args.left _ _ _ _ _ c.from_residual-in_err-first.ensures (then_exit shell c.args.left _ _ _ _ (then_off shell _ (c.in_ok-rest.ensures.reads c.args.left) _ (c.in_err-first.ensures.reads)))

pub plain-returns-in_err-simple-clause-reads : goal.plain-returns-in_err-simple-clause-reads
plain-returns-in_err-simple-clause-reads t c = off c.args.left _ _ _ _ _ c.from_residual-in_err-simple.ensures (then_off shell _ (then_on shell (c.in_ok-rest.ensures.reads c.args.left) (c.in_ok-first.ensures.reads)) _ (c.in_err-simple.ensures.err))

pub plain-returns-clause-reads : goal.plain-returns-clause-reads
plain-returns-clause-reads t c = then_passed (then_on shell (c.in_ok-rest.ensures.reads c.args.left) (c.in_ok-first.ensures.reads)) c.in_ok-simple.ensures.passes (c.in_ok-simple.ensures.spells _ (not_begins reserved_words (kinds (Plain ∷ [])) refl (whats c.args.tokens.now) (begins_key (kinds (Plain ∷ [])) (λ us. us ≡ whats c.in_ok-rest.rest.now) (whats c.args.tokens.now) (c.in_ok-rest.ensures.reads c.args.left).spells)) (rw (c.new.ensures.items, c.new-2.ensures.items) (first_alone (kinds (Plain ∷ [])) refl c.in_ok-first.first _ _ (then_on shell (c.in_ok-rest.ensures.reads c.args.left) (c.in_ok-first.ensures.reads)).spells)))

pub prefix-returns-in_err-next-clause-err : goal.prefix-returns-in_err-next-clause-err
prefix-returns-in_err-next-clause-err t c = exit_gives c.args.left _ _ _ _ c.from_residual.ensures (gives_left shell c.args.left _ _ _ _ (sym c.opens.ensures ∙ c.if-opens.true) (c.in_err-next.ensures.reads))

pub prefix-returns-then-opens-clause-passes : goal.prefix-returns-then-opens-clause-passes
prefix-returns-then-opens-clause-passes t c = passes_left shell (sym c.opens.ensures ∙ c.if-opens.true) (passes_of c.in_ok-next.ensures.reads)

pub prefix-returns-then-opens-clause-spells : goal.prefix-returns-then-opens-clause-spells
prefix-returns-then-opens-clause-spells t c = λ start h. one_assigned start _ _ c.in_ok-next.next _ _ _ c.in_ok-push.ensures.items c.in_ok-next.ensures.reads.spells h

pub prefix-returns-then-opens-clause-begins : goal.prefix-returns-then-opens-clause-begins
prefix-returns-then-opens-clause-begins t c = not_begins reserved_words (kinds (Assignment ∷ [])) refl (whats c.args.tokens.now) (sym c.opens.ensures ∙ c.if-opens.true)

pub prefix-returns-clause-begins : goal.prefix-returns-clause-begins
prefix-returns-clause-begins t c = not_begins reserved_words redirect_begins refl (whats c.args.tokens.now) (spelled_redirect c.in_ok-next-2.next (whats c.args.tokens.now) _ c.in_ok-next-2.ensures.reads.spells)

pub prefix-returns-in_err-next-2-clause-err : goal.prefix-returns-in_err-next-2-clause-err
prefix-returns-in_err-next-2-clause-err t c = exit_gives c.args.left _ _ _ _ c.from_residual-in_err-next-2.ensures (gives_right shell c.args.left _ _ _ _ refl (sym c.opens.ensures ∙ c.if-opens.false) (c.in_err-next-2.ensures.reads))

pub prefix-returns-clause-passes : goal.prefix-returns-clause-passes
prefix-returns-clause-passes t c = passes_right shell refl (sym c.opens.ensures ∙ c.if-opens.false) (passes_of c.in_ok-next-2.ensures.reads)

pub prefix-returns-clause-spells : goal.prefix-returns-clause-spells
prefix-returns-clause-spells t c = λ start h. one_redirect start _ [] _ _ c.in_ok-next-2.next _ _ c.in_ok-push-2.ensures.items c.in_ok-next-2.ensures.reads.spells h

pub words_behind-returns-in_err-rest-clause-err : goal.words_behind-returns-in_err-rest-clause-err
words_behind-returns-in_err-rest-clause-err t c = exit_gives c.args.left _ _ _ _ c.from_residual.ensures (gives_left shell c.args.left _ _ _ _ (sym c.opens_command_word.ensures ∙ c.if-opens_command_word.true) (then_exit shell c.args.left _ _ _ _ (then_exit shell c.args.left _ _ _ _ (c.in_err-rest.ensures.reads c.args.left))))

pub words_behind-returns-in_err-first-clause-err : goal.words_behind-returns-in_err-first-clause-err
words_behind-returns-in_err-first-clause-err t c = exit_gives c.args.left _ _ _ _ c.from_residual-in_err-first.ensures (gives_left shell c.args.left _ _ _ _ (sym c.opens_command_word.ensures ∙ c.if-opens_command_word.true) (then_exit shell c.args.left _ _ _ _ (then_off shell _ (c.in_ok-rest.ensures.reads c.args.left) _ (c.in_err-first.ensures.reads))))

pub words_behind-returns-in_err-simple-clause-err : goal.words_behind-returns-in_err-simple-clause-err
words_behind-returns-in_err-simple-clause-err t c = exit_gives c.args.left _ _ _ _ c.from_residual-in_err-simple.ensures (gives_left shell c.args.left _ _ _ _ (sym c.opens_command_word.ensures ∙ c.if-opens_command_word.true) (then_off shell _ (then_on shell (c.in_ok-rest.ensures.reads c.args.left) (c.in_ok-first.ensures.reads)) _ (c.in_err-simple.ensures.err)))

pub words_behind-returns-then-opens_command_word-clause-passes : goal.words_behind-returns-then-opens_command_word-clause-passes
words_behind-returns-then-opens_command_word-clause-passes t c = passes_left shell (sym c.opens_command_word.ensures ∙ c.if-opens_command_word.true) (passes_then shell (then_on shell (c.in_ok-rest.ensures.reads c.args.left) (c.in_ok-first.ensures.reads)) c.in_ok-simple.ensures.passes)

pub words_behind-returns-then-opens_command_word-clause-spells : goal.words_behind-returns-then-opens_command_word-clause-spells
words_behind-returns-then-opens_command_word-clause-spells t c = λ start b l h. c.in_ok-simple.ensures.spells start b (first_behind start (map assigned_pattern c.args.assigned.items) c.in_ok-first.first c.args.redirects.items _ _ (then_on shell (c.in_ok-rest.ensures.reads c.args.left) (c.in_ok-first.ensures.reads)).spells h)

pub words_behind-returns-clause-passes : goal.words_behind-returns-clause-passes
words_behind-returns-clause-passes t c = passes_right shell refl (sym c.opens_command_word.ensures ∙ c.if-opens_command_word.false) (passes_of (reads_last shell c.args.left words (whats c.args.tokens.now) (no_word (whats c.args.tokens.now) (sym c.opens_command_word.ensures ∙ c.if-opens_command_word.false) c.requires)))

pub words_behind-returns-clause-spells : goal.words_behind-returns-clause-spells
words_behind-returns-clause-spells t c = λ start b l h. simple_behind c.args.assigned c.new-words.result c.new-texts.result c.args.redirects start _ b (no_word (whats c.args.tokens.now) (sym c.opens_command_word.ensures ∙ c.if-opens_command_word.false) c.requires) l (rw c.new-words.ensures.items h)

pub prefixed-returns-in_err-rest-clause-reads : goal.prefixed-returns-in_err-rest-clause-reads
prefixed-returns-in_err-rest-clause-reads t c = off c.args.left _ _ _ _ _ c.from_residual.ensures (then_exit shell c.args.left _ _ _ _ (c.in_err-rest.ensures.err))

pub prefixed-loop-assignments-init : goal.prefixed-loop-assignments-init
prefixed-loop-assignments-init t c = record { shorter = c.in_ok-rest.ensures.shorter; moves = moves_then shell c.in_ok-rest.ensures.passes; spells = c.in_ok-rest.ensures.spells _ (rw (c.new-assignments.ensures.items, c.new-redirects.ensures.items) refl) }

pub prefixed-returns-in_err-behind-clause-reads : goal.prefixed-returns-in_err-behind-clause-reads
prefixed-returns-in_err-behind-clause-reads t c = off c.args.left _ _ _ _ _ c.from_residual-in_err-behind.ensures (moves_exit c.loop-assignments.invariant.moves _ (exit_many_then shell shell_firm (begun shell c.args.left _ _) refl (sym c.opens_prefix.ensures ∙ c.loop-assignments-test.true) _ c.in_err-behind.ensures.err))

pub prefixed-loop-assignments-preserved : goal.prefixed-loop-assignments-preserved
prefixed-loop-assignments-preserved t c = record { shorter = omega (arith, c.loop-assignments.invariant.shorter, c.in_ok-behind.ensures.shorter); moves = moves_on c.loop-assignments.invariant.moves (moves_many shell shell_firm refl (sym c.opens_prefix.ensures ∙ c.loop-assignments-test.true) c.in_ok-behind.ensures.passes); spells = c.in_ok-behind.ensures.spells _ c.loop-assignments.invariant.spells }

pub prefixed-words_behind-requires : goal.prefixed-words_behind-requires
prefixed-words_behind-requires t c = (omega (arith, c.decreases), no_assignment (whats c.loop-assignments.rest.now) (sym c.opens_prefix.ensures ∙ c.loop-assignments-test.false))

pub prefixed-returns-in_err-simple-clause-reads : goal.prefixed-returns-in_err-simple-clause-reads
prefixed-returns-in_err-simple-clause-reads t c = off c.args.left _ _ _ _ _ c.from_residual-in_err-simple.ensures (moves_exit (moves_on c.loop-assignments.invariant.moves (moves_past shell (sym c.opens_prefix.ensures ∙ c.loop-assignments-test.false))) _ c.in_err-simple.ensures.err)

pub prefixed-returns-clause-reads : goal.prefixed-returns-clause-reads
prefixed-returns-clause-reads t c = record { spells = c.in_ok-simple.ensures.spells _ c.in_ok-rest.ensures.begins (shorter_whats _ _ c.loop-assignments.invariant.shorter) c.loop-assignments.invariant.spells; goes = (moves_end (moves_on c.loop-assignments.invariant.moves (moves_past shell (sym c.opens_prefix.ensures ∙ c.loop-assignments-test.false))) c.in_ok-simple.ensures.passes).goes }

pub simple-returns-in_err-named-clause-reads : goal.simple-returns-in_err-named-clause-reads
simple-returns-in_err-named-clause-reads t c = off c.args.left _ _ _ _ _ c.from_residual.ensures (gives_left shell c.args.left _ _ _ _ (sym c.opens.ensures ∙ c.if-opens.true) (c.in_err-named.ensures.reads))

pub simple-returns-then-opens-clause-reads : goal.simple-returns-then-opens-clause-reads
simple-returns-then-opens-clause-reads t c = left_on shell (sym c.opens.ensures ∙ c.if-opens.true) (c.in_ok-named.ensures.reads)

pub simple-returns-in_err-plain-clause-reads : goal.simple-returns-in_err-plain-clause-reads
simple-returns-in_err-plain-clause-reads t c = off c.args.left _ _ _ _ _ c.from_residual-in_err-plain.ensures (gives_right shell c.args.left _ _ _ _ refl (sym c.opens.ensures ∙ c.if-opens.false) (gives_left shell c.args.left _ _ _ _ (sym c.opens-2.ensures ∙ c.if-opens-2.true) (c.in_err-plain.ensures.reads)))

pub simple-returns-then-opens-2-clause-reads : goal.simple-returns-then-opens-2-clause-reads
simple-returns-then-opens-2-clause-reads t c = right_on shell refl (sym c.opens.ensures ∙ c.if-opens.false) (left_on shell (sym c.opens-2.ensures ∙ c.if-opens-2.true) (c.in_ok-plain.ensures.reads))

pub simple-returns-in_err-prefixed-clause-reads : goal.simple-returns-in_err-prefixed-clause-reads
simple-returns-in_err-prefixed-clause-reads t c = off c.args.left _ _ _ _ _ c.from_residual-in_err-prefixed.ensures (gives_right shell c.args.left _ _ _ _ refl (sym c.opens.ensures ∙ c.if-opens.false) (gives_right shell c.args.left _ _ _ _ refl (sym c.opens-2.ensures ∙ c.if-opens-2.false) (c.in_err-prefixed.ensures.reads)))

pub simple-returns-clause-reads : goal.simple-returns-clause-reads
simple-returns-clause-reads t c = right_on shell refl (sym c.opens.ensures ∙ c.if-opens.false) (right_on shell refl (sym c.opens-2.ensures ∙ c.if-opens-2.false) (c.in_ok-prefixed.ensures.reads))

pub block-returns-in_err-script-clause-reads : goal.block-returns-in_err-script-clause-reads
block-returns-in_err-script-clause-reads t c = off c.args.left _ _ _ _ _ c.from_residual.ensures (then_off shell _ (c.newlines-rest.ensures.reads c.args.left) _ (inner_gives c.args.left c.requires _ _ c.in_err-script.ensures.reads))

pub block-returns-clause-reads : goal.block-returns-clause-reads
block-returns-clause-reads t c = then_on shell (c.newlines-rest.ensures.reads c.args.left) (inner_on c.args.left c.requires _ _ _ c.in_ok-script.ensures.reads)

pub body-returns-in_err-script-clause-reads : goal.body-returns-in_err-script-clause-reads
body-returns-in_err-script-clause-reads t c = off c.args.left _ _ _ _ _ c.from_residual.ensures (gives_left shell c.args.left _ _ _ _ (sym c.opens_list.ensures ∙ c.if-opens_list.true) (inner_gives c.args.left c.requires _ _ c.in_err-script.ensures.reads))

pub body-returns-then-opens_list-clause-reads : goal.body-returns-then-opens_list-clause-reads
body-returns-then-opens_list-clause-reads t c = left_on shell (sym c.opens_list.ensures ∙ c.if-opens_list.true) (inner_on c.args.left c.requires _ _ _ c.in_ok-script.ensures.reads)

pub body-returns-clause-reads : goal.body-returns-clause-reads
body-returns-clause-reads t c = right_on shell refl (sym c.opens_list.ensures ∙ c.if-opens_list.false) (reads_empty shell c.args.left _)

pub list-returns-in_err-first-clause-reads : goal.list-returns-in_err-first-clause-reads
list-returns-in_err-first-clause-reads t c = off c.args.left _ _ _ _ _ c.from_residual.ensures (then_exit shell c.args.left _ _ _ _ (c.in_err-first.ensures.reads))

pub list-loop-alloc-init : goal.list-loop-alloc-init
list-loop-alloc-init t c = record { shorter = c.in_ok-first.ensures.shorter; turns = start_parted and_or_pattern sequential c.new-list.result.items c.in_ok-first.ensures.reads c.new-list.ensures.items c.in_ok-push.ensures.items }

pub list-returns-in_err-after-clause-reads : goal.list-returns-in_err-after-clause-reads
list-returns-in_err-after-clause-reads t c = off c.args.left _ _ _ _ _ c.from_residual-in_err-after.ensures (exit_sep shell shell_firm c.loop-alloc.invariant.turns refl (sym c.opens.ensures ∙ c.loop-alloc-test.true) _ (c.in_err-after.ensures.reads c.args.left))

pub list-returns-then-not-opens_list-clause-reads : goal.list-returns-then-not-opens_list-clause-reads
list-returns-then-not-opens_list-clause-reads t c = rw (script_made c.loop-alloc.list) (listed (map and_or_pattern c.loop-alloc.list.items) (end_row c.loop-alloc.invariant.turns refl (sym c.opens.ensures ∙ c.loop-alloc-test.true) (c.in_ok-after.ensures.reads c.args.left) refl (sym c.opens_list.ensures ∙ c.if-not-opens_list.true)))

pub list-returns-in_err-next-clause-reads : goal.list-returns-in_err-next-clause-reads
list-returns-in_err-next-clause-reads t c = off c.args.left _ _ _ _ _ c.from_residual-in_err-next.ensures (exit_row shell shell_firm c.loop-alloc.invariant.turns refl (sym c.opens.ensures ∙ c.loop-alloc-test.true) (c.in_ok-after.ensures.reads c.args.left) (sym c.opens_list.ensures ∙ c.if-not-opens_list.false) _ (c.in_err-next.ensures.reads))

pub list-loop-alloc-preserved : goal.list-loop-alloc-preserved
list-loop-alloc-preserved t c = record { shorter = omega (arith, c.loop-alloc.invariant.shorter, c.in_ok-after.ensures.shorter, c.in_ok-next.ensures.shorter); turns = step_row and_or_pattern sequential c.loop-alloc.list.items c.loop-alloc.invariant.turns refl (sym c.opens.ensures ∙ c.loop-alloc-test.true) (c.in_ok-after.ensures.reads c.args.left) (sym c.opens_list.ensures ∙ c.if-not-opens_list.false) c.in_ok-next.ensures.reads c.in_ok-push-2.ensures.items }

pub list-returns-clause-reads : goal.list-returns-clause-reads
list-returns-clause-reads t c = rw (script_made c.loop-alloc.list) (listed (map and_or_pattern c.loop-alloc.list.items) (row_end sequential (end_more shell c.loop-alloc.invariant.turns (sym c.opens.ensures ∙ c.loop-alloc-test.false))))

pub and_or-returns-in_err-first-clause-reads : goal.and_or-returns-in_err-first-clause-reads
and_or-returns-in_err-first-clause-reads t c = off c.args.left _ _ _ _ _ c.from_residual.ensures (then_exit shell c.args.left _ _ _ _ (c.in_err-first.ensures.reads))

pub and_or-loop-alloc-init : goal.and_or-loop-alloc-init
and_or-loop-alloc-init t c = record { shorter = c.in_ok-first.ensures.shorter; turns = start_after joined_pattern c.new-joined_on.result.items c.in_ok-first.ensures.reads c.new-joined_on.ensures.items }

pub and_or-returns-in_err-next-clause-reads : goal.and_or-returns-in_err-next-clause-reads
and_or-returns-in_err-next-clause-reads t c = off c.args.left _ _ _ _ _ c.from_residual-in_err-next.ensures (exit_many shell shell_firm c.loop-alloc.invariant.turns refl (sym c.opens.ensures ∙ c.loop-alloc-test.true) _ (c.in_err-next.ensures.reads))

pub and_or-loop-alloc-preserved : goal.and_or-loop-alloc-preserved
and_or-loop-alloc-preserved t c = record { shorter = omega (arith, c.loop-alloc.invariant.shorter, c.in_ok-next.ensures.shorter); turns = step_after joined_pattern _ c.loop-alloc.joined_on.items c.loop-alloc.invariant.turns refl (sym c.opens.ensures ∙ c.loop-alloc-test.true) c.in_ok-next.ensures.reads c.in_ok-push.ensures.items }

pub and_or-returns-clause-reads : goal.and_or-returns-clause-reads
and_or-returns-clause-reads t c = rw (and_or_made c.in_ok-first.first c.loop-alloc.joined_on) (end_many shell c.loop-alloc.invariant.turns (sym c.opens.ensures ∙ c.loop-alloc-test.false))

pub joined-returns-in_err-and-clause-reads : goal.joined-returns-in_err-and-clause-reads
joined-returns-in_err-and-clause-reads t c = off c.args.left _ _ _ _ _ c.from_residual.ensures (then_exit shell c.args.left _ _ _ _ (c.in_err-and.ensures.reads c.args.left))

pub joined-returns-in_err-next-clause-reads : goal.joined-returns-in_err-next-clause-reads
joined-returns-in_err-next-clause-reads t c = off c.args.left _ _ _ _ _ c.from_residual-in_err-next.ensures (then_off shell _ (c.in_ok-and.ensures.reads c.args.left) _ (then_off shell _ (c.newlines-rest.ensures.reads c.args.left) _ (c.in_err-next.ensures.reads)))

pub joined-returns-clause-reads : goal.joined-returns-clause-reads
joined-returns-clause-reads t c = rw (joined_made c.in_ok-and.and c.in_ok-next.next) (then_on shell (c.in_ok-and.ensures.reads c.args.left) (then_on shell (c.newlines-rest.ensures.reads c.args.left) (c.in_ok-next.ensures.reads)))

pub pipeline-returns-in_err-not-clause-reads : goal.pipeline-returns-in_err-not-clause-reads
pipeline-returns-in_err-not-clause-reads t c = off c.args.left _ _ _ _ _ c.from_residual.ensures (then_exit shell c.args.left _ _ _ _ (c.in_err-not.ensures.reads c.args.left))

pub pipeline-returns-in_err-stages-clause-reads : goal.pipeline-returns-in_err-stages-clause-reads
pipeline-returns-in_err-stages-clause-reads t c = off c.args.left _ _ _ _ _ c.from_residual-in_err-stages.ensures (then_off shell _ (c.in_ok-not.ensures.reads c.args.left) _ (c.in_err-stages.ensures.reads))

pub pipeline-returns-clause-reads : goal.pipeline-returns-clause-reads
pipeline-returns-clause-reads t c = rw (pipeline_made c.in_ok-not.not c.in_ok-stages.stages) (then_on shell (c.in_ok-not.ensures.reads c.args.left) (c.in_ok-stages.ensures.reads))

pub stages-returns-in_err-first-clause-reads : goal.stages-returns-in_err-first-clause-reads
stages-returns-in_err-first-clause-reads t c = off c.args.left _ _ _ _ _ c.from_residual.ensures (then_exit shell c.args.left _ _ _ _ (c.in_err-first.ensures.reads))

pub stages-loop-alloc-init : goal.stages-loop-alloc-init
stages-loop-alloc-init t c = record { shorter = c.in_ok-first.ensures.shorter; turns = start_parted command_pattern (key Pipe ⨾ newlines) c.new-stages.result.items c.in_ok-first.ensures.reads c.new-stages.ensures.items c.in_ok-push.ensures.items }

pub stages-returns-in_err-next-clause-reads : goal.stages-returns-in_err-next-clause-reads
stages-returns-in_err-next-clause-reads t c = off c.args.left _ _ _ _ _ c.from_residual-in_err-next.ensures (exit_many shell shell_firm c.loop-alloc.invariant.turns refl (sym c.opens.ensures ∙ c.loop-alloc-test.true) _ (c.in_err-next.ensures.reads))

pub stages-loop-alloc-preserved : goal.stages-loop-alloc-preserved
stages-loop-alloc-preserved t c = record { shorter = omega (arith, c.loop-alloc.invariant.shorter, c.in_ok-next.ensures.shorter); turns = step_parted command_pattern (key Pipe ⨾ newlines) c.loop-alloc.stages.items c.loop-alloc.invariant.turns refl (sym c.opens.ensures ∙ c.loop-alloc-test.true) c.in_ok-next.ensures.reads c.in_ok-push-2.ensures.items }

pub stages-returns-clause-reads : goal.stages-returns-clause-reads
stages-returns-clause-reads t c = end_many shell c.loop-alloc.invariant.turns (sym c.opens.ensures ∙ c.loop-alloc-test.false)

pub stage-returns-in_err-rest-clause-reads : goal.stage-returns-in_err-rest-clause-reads
stage-returns-in_err-rest-clause-reads t c = off c.args.left _ _ _ _ _ c.from_residual.ensures (then_exit shell c.args.left _ _ _ _ (then_exit shell c.args.left _ _ _ _ (c.in_err-rest.ensures.reads c.args.left)))

pub stage-returns-in_err-next-clause-reads : goal.stage-returns-in_err-next-clause-reads
stage-returns-in_err-next-clause-reads t c = off c.args.left _ _ _ _ _ c.from_residual-in_err-next.ensures (then_off shell _ (then_on shell (c.in_ok-rest.ensures.reads c.args.left) (c.newlines-rest.ensures.reads c.args.left)) _ (c.in_err-next.ensures.reads))

pub stage-returns-clause-reads : goal.stage-returns-clause-reads
stage-returns-clause-reads t c = assoc_both (c.in_ok-rest.ensures.reads c.args.left) (c.newlines-rest.ensures.reads c.args.left) (c.in_ok-next.ensures.reads)

pub command-returns-in_err-simple-clause-reads : goal.command-returns-in_err-simple-clause-reads
command-returns-in_err-simple-clause-reads t c = off c.args.left _ _ _ _ _ c.from_residual.ensures (gives_left shell c.args.left _ _ _ _ (sym c.opens_simple.ensures ∙ c.if-opens_simple.true) (c.in_err-simple.ensures.reads))

pub command-returns-then-opens_simple-clause-reads : goal.command-returns-then-opens_simple-clause-reads
command-returns-then-opens_simple-clause-reads t c = rw (command_Simple c.in_ok-simple.simple) (left_on shell (sym c.opens_simple.ensures ∙ c.if-opens_simple.true) (c.in_ok-simple.ensures.reads))

pub command-returns-in_err-compound-clause-reads : goal.command-returns-in_err-compound-clause-reads
command-returns-in_err-compound-clause-reads t c = off c.args.left _ _ _ _ _ c.from_residual-in_err-compound.ensures (gives_right shell c.args.left _ _ _ _ refl (sym c.opens_simple.ensures ∙ c.if-opens_simple.false) (then_exit shell c.args.left _ _ _ _ (c.in_err-compound.ensures.reads)))

pub command-returns-in_err-redirects-clause-reads : goal.command-returns-in_err-redirects-clause-reads
command-returns-in_err-redirects-clause-reads t c = off c.args.left _ _ _ _ _ c.from_residual-in_err-redirects.ensures (gives_right shell c.args.left _ _ _ _ refl (sym c.opens_simple.ensures ∙ c.if-opens_simple.false) (then_off shell _ (c.in_ok-compound.ensures.reads) _ (c.in_err-redirects.ensures.reads)))

pub command-returns-clause-reads : goal.command-returns-clause-reads
command-returns-clause-reads t c = rw (command_Compound c.in_ok-compound.compound c.in_ok-redirects.redirects) (right_on shell refl (sym c.opens_simple.ensures ∙ c.if-opens_simple.false) (then_on shell (c.in_ok-compound.ensures.reads) (c.in_ok-redirects.ensures.reads)))

pub compound-returns-in_err-subshell-clause-reads : goal.compound-returns-in_err-subshell-clause-reads
compound-returns-in_err-subshell-clause-reads t c = off c.args.left _ _ _ _ _ c.from_residual.ensures (gives_left shell c.args.left _ _ _ _ (sym c.opens.ensures ∙ c.if-opens.true) (c.in_err-subshell.ensures.reads))

pub compound-returns-then-opens-clause-reads : goal.compound-returns-then-opens-clause-reads
compound-returns-then-opens-clause-reads t c = rw (compound_Subshell c.in_ok-subshell.subshell) (left_on shell (sym c.opens.ensures ∙ c.if-opens.true) (c.in_ok-subshell.ensures.reads))

pub compound-returns-in_err-group-clause-reads : goal.compound-returns-in_err-group-clause-reads
compound-returns-in_err-group-clause-reads t c = off c.args.left _ _ _ _ _ c.from_residual-in_err-group.ensures (gives_right shell c.args.left _ _ _ _ refl (sym c.opens.ensures ∙ c.if-opens.false) (gives_left shell c.args.left _ _ _ _ (sym c.opens-2.ensures ∙ c.if-opens-2.true) (c.in_err-group.ensures.reads)))

pub compound-returns-then-opens-2-clause-reads : goal.compound-returns-then-opens-2-clause-reads
compound-returns-then-opens-2-clause-reads t c = rw (compound_Group c.in_ok-group.group) (right_on shell refl (sym c.opens.ensures ∙ c.if-opens.false) (left_on shell (sym c.opens-2.ensures ∙ c.if-opens-2.true) (c.in_ok-group.ensures.reads)))

pub compound-returns-in_err-conditional-clause-reads : goal.compound-returns-in_err-conditional-clause-reads
compound-returns-in_err-conditional-clause-reads t c = off c.args.left _ _ _ _ _ c.from_residual-in_err-conditional.ensures (gives_right shell c.args.left _ _ _ _ refl (sym c.opens.ensures ∙ c.if-opens.false) (gives_right shell c.args.left _ _ _ _ refl (sym c.opens-2.ensures ∙ c.if-opens-2.false) (gives_left shell c.args.left _ _ _ _ (sym c.opens-3.ensures ∙ c.if-opens-3.true) (c.in_err-conditional.ensures.reads))))

pub compound-returns-then-opens-3-clause-reads : goal.compound-returns-then-opens-3-clause-reads
compound-returns-then-opens-3-clause-reads t c = rw (compound_If c.in_ok-conditional.conditional) (right_on shell refl (sym c.opens.ensures ∙ c.if-opens.false) (right_on shell refl (sym c.opens-2.ensures ∙ c.if-opens-2.false) (left_on shell (sym c.opens-3.ensures ∙ c.if-opens-3.true) (c.in_ok-conditional.ensures.reads))))

pub compound-returns-in_err-looped-clause-reads : goal.compound-returns-in_err-looped-clause-reads
compound-returns-in_err-looped-clause-reads t c = off c.args.left _ _ _ _ _ c.from_residual-in_err-looped.ensures (gives_right shell c.args.left _ _ _ _ refl (sym c.opens.ensures ∙ c.if-opens.false) (gives_right shell c.args.left _ _ _ _ refl (sym c.opens-2.ensures ∙ c.if-opens-2.false) (gives_right shell c.args.left _ _ _ _ refl (sym c.opens-3.ensures ∙ c.if-opens-3.false) (gives_left shell c.args.left _ _ _ _ (sym c.opens-4.ensures ∙ c.if-opens-4.true) (c.in_err-looped.ensures.reads)))))

pub compound-returns-then-opens-4-clause-reads : goal.compound-returns-then-opens-4-clause-reads
compound-returns-then-opens-4-clause-reads t c = rw (compound_Loop c.in_ok-looped.looped) (right_on shell refl (sym c.opens.ensures ∙ c.if-opens.false) (right_on shell refl (sym c.opens-2.ensures ∙ c.if-opens-2.false) (right_on shell refl (sym c.opens-3.ensures ∙ c.if-opens-3.false) (left_on shell (sym c.opens-4.ensures ∙ c.if-opens-4.true) (c.in_ok-looped.ensures.reads)))))

pub compound-returns-in_err-looped_until-clause-reads : goal.compound-returns-in_err-looped_until-clause-reads
compound-returns-in_err-looped_until-clause-reads t c = off c.args.left _ _ _ _ _ c.from_residual-in_err-looped_until.ensures (gives_right shell c.args.left _ _ _ _ refl (sym c.opens.ensures ∙ c.if-opens.false) (gives_right shell c.args.left _ _ _ _ refl (sym c.opens-2.ensures ∙ c.if-opens-2.false) (gives_right shell c.args.left _ _ _ _ refl (sym c.opens-3.ensures ∙ c.if-opens-3.false) (gives_right shell c.args.left _ _ _ _ refl (sym c.opens-4.ensures ∙ c.if-opens-4.false) (gives_left shell c.args.left _ _ _ _ (sym c.opens-5.ensures ∙ c.if-opens-5.true) (c.in_err-looped_until.ensures.reads))))))

pub compound-returns-then-opens-5-clause-reads : goal.compound-returns-then-opens-5-clause-reads
compound-returns-then-opens-5-clause-reads t c = rw (compound_Loop c.in_ok-looped_until.looped_until) (right_on shell refl (sym c.opens.ensures ∙ c.if-opens.false) (right_on shell refl (sym c.opens-2.ensures ∙ c.if-opens-2.false) (right_on shell refl (sym c.opens-3.ensures ∙ c.if-opens-3.false) (right_on shell refl (sym c.opens-4.ensures ∙ c.if-opens-4.false) (left_on shell (sym c.opens-5.ensures ∙ c.if-opens-5.true) (c.in_ok-looped_until.ensures.reads))))))

pub compound-returns-in_err-over-clause-reads : goal.compound-returns-in_err-over-clause-reads
compound-returns-in_err-over-clause-reads t c = off c.args.left _ _ _ _ _ c.from_residual-in_err-over.ensures (gives_right shell c.args.left _ _ _ _ refl (sym c.opens.ensures ∙ c.if-opens.false) (gives_right shell c.args.left _ _ _ _ refl (sym c.opens-2.ensures ∙ c.if-opens-2.false) (gives_right shell c.args.left _ _ _ _ refl (sym c.opens-3.ensures ∙ c.if-opens-3.false) (gives_right shell c.args.left _ _ _ _ refl (sym c.opens-4.ensures ∙ c.if-opens-4.false) (gives_right shell c.args.left _ _ _ _ refl (sym c.opens-5.ensures ∙ c.if-opens-5.false) (gives_left shell c.args.left _ _ _ _ (sym c.opens-6.ensures ∙ c.if-opens-6.true) (c.in_err-over.ensures.reads)))))))

pub compound-returns-then-opens-6-clause-reads : goal.compound-returns-then-opens-6-clause-reads
compound-returns-then-opens-6-clause-reads t c = rw (compound_For c.in_ok-over.over) (right_on shell refl (sym c.opens.ensures ∙ c.if-opens.false) (right_on shell refl (sym c.opens-2.ensures ∙ c.if-opens-2.false) (right_on shell refl (sym c.opens-3.ensures ∙ c.if-opens-3.false) (right_on shell refl (sym c.opens-4.ensures ∙ c.if-opens-4.false) (right_on shell refl (sym c.opens-5.ensures ∙ c.if-opens-5.false) (left_on shell (sym c.opens-6.ensures ∙ c.if-opens-6.true) (c.in_ok-over.ensures.reads)))))))

pub compound-returns-in_err-choice-clause-reads : goal.compound-returns-in_err-choice-clause-reads
compound-returns-in_err-choice-clause-reads t c = off c.args.left _ _ _ _ _ c.from_residual-in_err-choice.ensures (gives_right shell c.args.left _ _ _ _ refl (sym c.opens.ensures ∙ c.if-opens.false) (gives_right shell c.args.left _ _ _ _ refl (sym c.opens-2.ensures ∙ c.if-opens-2.false) (gives_right shell c.args.left _ _ _ _ refl (sym c.opens-3.ensures ∙ c.if-opens-3.false) (gives_right shell c.args.left _ _ _ _ refl (sym c.opens-4.ensures ∙ c.if-opens-4.false) (gives_right shell c.args.left _ _ _ _ refl (sym c.opens-5.ensures ∙ c.if-opens-5.false) (gives_right shell c.args.left _ _ _ _ refl (sym c.opens-6.ensures ∙ c.if-opens-6.false) (c.in_err-choice.ensures.reads)))))))

pub compound-returns-clause-reads : goal.compound-returns-clause-reads
compound-returns-clause-reads t c = rw (compound_Case c.in_ok-choice.choice) (right_on shell refl (sym c.opens.ensures ∙ c.if-opens.false) (right_on shell refl (sym c.opens-2.ensures ∙ c.if-opens-2.false) (right_on shell refl (sym c.opens-3.ensures ∙ c.if-opens-3.false) (right_on shell refl (sym c.opens-4.ensures ∙ c.if-opens-4.false) (right_on shell refl (sym c.opens-5.ensures ∙ c.if-opens-5.false) (right_on shell refl (sym c.opens-6.ensures ∙ c.if-opens-6.false) (c.in_ok-choice.ensures.reads)))))))

pub subshell-returns-in_err-rest-clause-reads : goal.subshell-returns-in_err-rest-clause-reads
subshell-returns-in_err-rest-clause-reads t c = off c.args.left _ _ _ _ _ c.from_residual.ensures (c.in_err-rest.ensures.err _)

pub subshell-returns-in_err-script-clause-reads : goal.subshell-returns-in_err-script-clause-reads
subshell-returns-in_err-script-clause-reads t c = off c.args.left _ _ _ _ _ c.from_residual-in_err-script.ensures (turn_off shell (c.in_ok-rest.ensures.turns _) _ (then_exit shell c.args.left _ _ _ _ (c.in_err-script.ensures.reads)))

pub subshell-returns-in_err-rest-2-clause-reads : goal.subshell-returns-in_err-rest-2-clause-reads
subshell-returns-in_err-rest-2-clause-reads t c = off c.args.left _ _ _ _ _ c.from_residual-in_err-rest-2.ensures (turn_off shell (c.in_ok-rest.ensures.turns _) _ (then_off shell _ (c.in_ok-script.ensures.reads) _ (c.in_err-rest-2.ensures.reads c.args.left)))

pub subshell-returns-clause-reads : goal.subshell-returns-clause-reads
subshell-returns-clause-reads t c = turn_on shell (c.in_ok-rest.ensures.turns _) (then_on shell (c.in_ok-script.ensures.reads) (c.in_ok-rest-2.ensures.reads c.args.left))

pub group-returns-in_err-rest-clause-reads : goal.group-returns-in_err-rest-clause-reads
group-returns-in_err-rest-clause-reads t c = off c.args.left _ _ _ _ _ c.from_residual.ensures (c.in_err-rest.ensures.err _)

pub group-returns-in_err-rest-2-clause-reads : goal.group-returns-in_err-rest-2-clause-reads
group-returns-in_err-rest-2-clause-reads t c = off c.args.left _ _ _ _ _ c.from_residual-in_err-rest-2.ensures (turn_off shell (c.in_ok-rest.ensures.turns _) _ (then_exit shell c.args.left _ _ _ _ (c.in_err-rest-2.ensures.reads c.args.left)))

pub group-returns-in_err-script-clause-reads : goal.group-returns-in_err-script-clause-reads
group-returns-in_err-script-clause-reads t c = off c.args.left _ _ _ _ _ c.from_residual-in_err-script.ensures (turn_off shell (c.in_ok-rest.ensures.turns _) _ (then_off shell _ (c.in_ok-rest-2.ensures.reads c.args.left) _ (then_exit shell c.args.left _ _ _ _ (c.in_err-script.ensures.reads))))

pub group-returns-in_err-rest-3-clause-reads : goal.group-returns-in_err-rest-3-clause-reads
group-returns-in_err-rest-3-clause-reads t c = off c.args.left _ _ _ _ _ c.from_residual-in_err-rest-3.ensures (turn_off shell (c.in_ok-rest.ensures.turns _) _ (then_off shell _ (c.in_ok-rest-2.ensures.reads c.args.left) _ (then_off shell _ (c.in_ok-script.ensures.reads) _ (c.in_err-rest-3.ensures.reads c.args.left))))

pub group-returns-clause-reads : goal.group-returns-clause-reads
group-returns-clause-reads t c = turn_on shell (c.in_ok-rest.ensures.turns _) (then_on shell (c.in_ok-rest-2.ensures.reads c.args.left) (then_on shell (c.in_ok-script.ensures.reads) (c.in_ok-rest-3.ensures.reads c.args.left)))

pub conditional-returns-in_err-rest-clause-reads : goal.conditional-returns-in_err-rest-clause-reads
conditional-returns-in_err-rest-clause-reads t c = off c.args.left _ _ _ _ _ c.from_residual.ensures (c.in_err-rest.ensures.err _)

pub conditional-returns-in_err-rest-2-clause-reads : goal.conditional-returns-in_err-rest-2-clause-reads
conditional-returns-in_err-rest-2-clause-reads t c = off c.args.left _ _ _ _ _ c.from_residual-in_err-rest-2.ensures (turn_off shell (c.in_ok-rest.ensures.turns _) _ (then_exit shell c.args.left _ _ _ _ (c.in_err-rest-2.ensures.reads c.args.left)))

pub conditional-returns-in_err-branches-clause-reads : goal.conditional-returns-in_err-branches-clause-reads
conditional-returns-in_err-branches-clause-reads t c = off c.args.left _ _ _ _ _ c.from_residual-in_err-branches.ensures (turn_off shell (c.in_ok-rest.ensures.turns _) _ (then_off shell _ (c.in_ok-rest-2.ensures.reads c.args.left) _ (then_exit shell c.args.left _ _ _ _ (c.in_err-branches.ensures.reads))))

pub conditional-returns-in_err-other-clause-reads : goal.conditional-returns-in_err-other-clause-reads
conditional-returns-in_err-other-clause-reads t c = off c.args.left _ _ _ _ _ c.from_residual-in_err-other.ensures (turn_off shell (c.in_ok-rest.ensures.turns _) _ (then_off shell _ (c.in_ok-rest-2.ensures.reads c.args.left) _ (then_off shell _ (c.in_ok-branches.ensures.reads) _ (then_exit shell c.args.left _ _ _ _ (c.in_err-other.ensures.reads)))))

pub conditional-returns-in_err-rest-3-clause-reads : goal.conditional-returns-in_err-rest-3-clause-reads
conditional-returns-in_err-rest-3-clause-reads t c = off c.args.left _ _ _ _ _ c.from_residual-in_err-rest-3.ensures (turn_off shell (c.in_ok-rest.ensures.turns _) _ (then_off shell _ (c.in_ok-rest-2.ensures.reads c.args.left) _ (then_off shell _ (c.in_ok-branches.ensures.reads) _ (then_off shell _ (c.in_ok-other.ensures.reads) _ (c.in_err-rest-3.ensures.reads c.args.left)))))

pub conditional-returns-clause-reads : goal.conditional-returns-clause-reads
conditional-returns-clause-reads t c = rw (if_made c.in_ok-branches.branches c.in_ok-other.other) (turn_on shell (c.in_ok-rest.ensures.turns _) (then_on shell (c.in_ok-rest-2.ensures.reads c.args.left) (then_on shell (c.in_ok-branches.ensures.reads) (then_on shell (c.in_ok-other.ensures.reads) (c.in_ok-rest-3.ensures.reads c.args.left)))))

pub loop_-returns-in_err-rest-clause-reads : goal.loop_-returns-in_err-rest-clause-reads
loop_-returns-in_err-rest-clause-reads t c = off c.args.left _ _ _ _ _ c.from_residual.ensures (rw (← c.loop_kind.ensures) (c.in_err-rest.ensures.err _))

pub loop_-returns-in_err-rest-2-clause-reads : goal.loop_-returns-in_err-rest-2-clause-reads
loop_-returns-in_err-rest-2-clause-reads t c = off c.args.left _ _ _ _ _ c.from_residual-in_err-rest-2.ensures (rw (← c.loop_kind.ensures) (turn_off shell (c.in_ok-rest.ensures.turns _) _ (then_exit shell c.args.left _ _ _ _ (c.in_err-rest-2.ensures.reads c.args.left))))

pub loop_-returns-in_err-test-clause-reads : goal.loop_-returns-in_err-test-clause-reads
loop_-returns-in_err-test-clause-reads t c = off c.args.left _ _ _ _ _ c.from_residual-in_err-test.ensures (rw (← c.loop_kind.ensures) (turn_off shell (c.in_ok-rest.ensures.turns _) _ (then_off shell _ (c.in_ok-rest-2.ensures.reads c.args.left) _ (then_exit shell c.args.left _ _ _ _ (c.in_err-test.ensures.reads)))))

pub loop_-returns-in_err-body-clause-reads : goal.loop_-returns-in_err-body-clause-reads
loop_-returns-in_err-body-clause-reads t c = off c.args.left _ _ _ _ _ c.from_residual-in_err-body.ensures (rw (← c.loop_kind.ensures) (turn_off shell (c.in_ok-rest.ensures.turns _) _ (then_off shell _ (c.in_ok-rest-2.ensures.reads c.args.left) _ (then_off shell _ (c.in_ok-test.ensures.reads) _ (c.in_err-body.ensures.reads)))))

pub loop_-returns-clause-reads : goal.loop_-returns-clause-reads
loop_-returns-clause-reads t c = rw (loop_made c.args.until c.in_ok-test.test c.in_ok-body.body, ← c.loop_kind.ensures) (turn_on shell (c.in_ok-rest.ensures.turns _) (then_on shell (c.in_ok-rest-2.ensures.reads c.args.left) (then_on shell (c.in_ok-test.ensures.reads) (c.in_ok-body.ensures.reads))))

pub for_-returns-in_err-rest-clause-reads : goal.for_-returns-in_err-rest-clause-reads
for_-returns-in_err-rest-clause-reads t c = off c.args.left _ _ _ _ _ c.from_residual.ensures (c.in_err-rest.ensures.err _)

pub for_-returns-in_err-rest-2-clause-reads : goal.for_-returns-in_err-rest-2-clause-reads
for_-returns-in_err-rest-2-clause-reads t c = off c.args.left _ _ _ _ _ c.from_residual-in_err-rest-2.ensures (turn_off shell (c.in_ok-rest.ensures.turns _) _ (then_exit shell c.args.left _ _ _ _ (c.in_err-rest-2.ensures.reads c.args.left)))

pub for_-returns-in_err-name-clause-reads : goal.for_-returns-in_err-name-clause-reads
for_-returns-in_err-name-clause-reads t c = off c.args.left _ _ _ _ _ c.from_residual-in_err-name.ensures (turn_off shell (c.in_ok-rest.ensures.turns _) _ (then_off shell _ (c.in_ok-rest-2.ensures.reads c.args.left) _ (then_exit shell c.args.left _ _ _ _ (c.in_err-name.ensures.reads c.args.left))))

pub for_-returns-in_err-rest-3-clause-reads : goal.for_-returns-in_err-rest-3-clause-reads
for_-returns-in_err-rest-3-clause-reads t c = off c.args.left _ _ _ _ _ c.from_residual-in_err-rest-3.ensures (turn_off shell (c.in_ok-rest.ensures.turns _) _ (then_off shell _ (c.in_ok-rest-2.ensures.reads c.args.left) _ (then_off shell _ (c.in_ok-name.ensures.reads c.args.left) _ (then_exit shell c.args.left _ _ _ _ (c.in_err-rest-3.ensures.reads c.args.left)))))

pub for_-returns-in_err-words-clause-reads : goal.for_-returns-in_err-words-clause-reads
for_-returns-in_err-words-clause-reads t c = off c.args.left _ _ _ _ _ c.from_residual-in_err-words.ensures (turn_off shell (c.in_ok-rest.ensures.turns _) _ (then_off shell _ (c.in_ok-rest-2.ensures.reads c.args.left) _ (then_off shell _ (c.in_ok-name.ensures.reads c.args.left) _ (then_off shell _ (c.in_ok-rest-3.ensures.reads c.args.left) _ (then_exit shell c.args.left _ _ _ _ (c.in_err-words.ensures.reads))))))

pub for_-returns-in_err-rest-4-clause-reads : goal.for_-returns-in_err-rest-4-clause-reads
for_-returns-in_err-rest-4-clause-reads t c = off c.args.left _ _ _ _ _ c.from_residual-in_err-rest-4.ensures (turn_off shell (c.in_ok-rest.ensures.turns _) _ (then_off shell _ (c.in_ok-rest-2.ensures.reads c.args.left) _ (then_off shell _ (c.in_ok-name.ensures.reads c.args.left) _ (then_off shell _ (c.in_ok-rest-3.ensures.reads c.args.left) _ (then_off shell _ (c.in_ok-words.ensures.reads) _ (then_exit shell c.args.left _ _ _ _ (c.in_err-rest-4.ensures.reads c.args.left)))))))

pub for_-returns-in_err-body-clause-reads : goal.for_-returns-in_err-body-clause-reads
for_-returns-in_err-body-clause-reads t c = off c.args.left _ _ _ _ _ c.from_residual-in_err-body.ensures (turn_off shell (c.in_ok-rest.ensures.turns _) _ (then_off shell _ (c.in_ok-rest-2.ensures.reads c.args.left) _ (then_off shell _ (c.in_ok-name.ensures.reads c.args.left) _ (then_off shell _ (c.in_ok-rest-3.ensures.reads c.args.left) _ (then_off shell _ (c.in_ok-words.ensures.reads) _ (then_off shell _ (c.in_ok-rest-4.ensures.reads c.args.left) _ (c.in_err-body.ensures.reads)))))))

pub for_-returns-clause-reads : goal.for_-returns-clause-reads
for_-returns-clause-reads t c = rw (for_made c.in_ok-name.name c.in_ok-words.words c.in_ok-body.body) (turn_on shell (c.in_ok-rest.ensures.turns _) (then_on shell (c.in_ok-rest-2.ensures.reads c.args.left) (then_on shell (c.in_ok-name.ensures.reads c.args.left) (then_on shell (c.in_ok-rest-3.ensures.reads c.args.left) (then_on shell (c.in_ok-words.ensures.reads) (then_on shell (c.in_ok-rest-4.ensures.reads c.args.left) (c.in_ok-body.ensures.reads)))))))

pub choice-returns-in_err-rest-clause-reads : goal.choice-returns-in_err-rest-clause-reads
choice-returns-in_err-rest-clause-reads t c = off c.args.left _ _ _ _ _ c.from_residual.ensures (c.in_err-rest.ensures.err _)

pub choice-returns-in_err-rest-2-clause-reads : goal.choice-returns-in_err-rest-2-clause-reads
choice-returns-in_err-rest-2-clause-reads t c = off c.args.left _ _ _ _ _ c.from_residual-in_err-rest-2.ensures (turn_off shell (c.in_ok-rest.ensures.turns _) _ (then_exit shell c.args.left _ _ _ _ (c.in_err-rest-2.ensures.reads c.args.left)))

pub choice-returns-in_err-word-clause-reads : goal.choice-returns-in_err-word-clause-reads
choice-returns-in_err-word-clause-reads t c = off c.args.left _ _ _ _ _ c.from_residual-in_err-word.ensures (turn_off shell (c.in_ok-rest.ensures.turns _) _ (then_off shell _ (c.in_ok-rest-2.ensures.reads c.args.left) _ (then_exit shell c.args.left _ _ _ _ (c.in_err-word.ensures.reads))))

pub choice-returns-in_err-rest-3-clause-reads : goal.choice-returns-in_err-rest-3-clause-reads
choice-returns-in_err-rest-3-clause-reads t c = off c.args.left _ _ _ _ _ c.from_residual-in_err-rest-3.ensures (turn_off shell (c.in_ok-rest.ensures.turns _) _ (then_off shell _ (c.in_ok-rest-2.ensures.reads c.args.left) _ (then_off shell _ (c.in_ok-word.ensures.reads) _ (then_exit shell c.args.left _ _ _ _ (c.in_err-rest-3.ensures.reads c.args.left)))))

pub choice-returns-in_err-items-clause-reads : goal.choice-returns-in_err-items-clause-reads
choice-returns-in_err-items-clause-reads t c = off c.args.left _ _ _ _ _ c.from_residual-in_err-items.ensures (turn_off shell (c.in_ok-rest.ensures.turns _) _ (then_off shell _ (c.in_ok-rest-2.ensures.reads c.args.left) _ (then_off shell _ (c.in_ok-word.ensures.reads) _ (then_off shell _ (c.in_ok-rest-3.ensures.reads c.args.left) _ (then_off shell _ (c.newlines-rest.ensures.reads c.args.left) _ (then_exit shell c.args.left _ _ _ _ (c.in_err-items.ensures.reads)))))))

pub choice-returns-in_err-rest-4-clause-reads : goal.choice-returns-in_err-rest-4-clause-reads
choice-returns-in_err-rest-4-clause-reads t c = off c.args.left _ _ _ _ _ c.from_residual-in_err-rest-4.ensures (turn_off shell (c.in_ok-rest.ensures.turns _) _ (then_off shell _ (c.in_ok-rest-2.ensures.reads c.args.left) _ (then_off shell _ (c.in_ok-word.ensures.reads) _ (then_off shell _ (c.in_ok-rest-3.ensures.reads c.args.left) _ (then_off shell _ (c.newlines-rest.ensures.reads c.args.left) _ (then_off shell _ (c.in_ok-items.ensures.reads) _ (c.in_err-rest-4.ensures.reads c.args.left)))))))

pub choice-returns-clause-reads : goal.choice-returns-clause-reads
choice-returns-clause-reads t c = rw (case_made c.in_ok-word.word c.in_ok-items.items) (turn_on shell (c.in_ok-rest.ensures.turns _) (then_on shell (c.in_ok-rest-2.ensures.reads c.args.left) (then_on shell (c.in_ok-word.ensures.reads) (then_on shell (c.in_ok-rest-3.ensures.reads c.args.left) (then_on shell (c.newlines-rest.ensures.reads c.args.left) (then_on shell (c.in_ok-items.ensures.reads) (c.in_ok-rest-4.ensures.reads c.args.left)))))))

pub branch-returns-in_err-test-clause-reads : goal.branch-returns-in_err-test-clause-reads
branch-returns-in_err-test-clause-reads t c = off c.args.left _ _ _ _ _ c.from_residual.ensures (then_exit shell c.args.left _ _ _ _ (c.in_err-test.ensures.reads))

pub branch-returns-in_err-rest-clause-reads : goal.branch-returns-in_err-rest-clause-reads
branch-returns-in_err-rest-clause-reads t c = off c.args.left _ _ _ _ _ c.from_residual-in_err-rest.ensures (then_off shell _ (c.in_ok-test.ensures.reads) _ (then_exit shell c.args.left _ _ _ _ (c.in_err-rest.ensures.reads c.args.left)))

pub branch-returns-in_err-body-clause-reads : goal.branch-returns-in_err-body-clause-reads
branch-returns-in_err-body-clause-reads t c = off c.args.left _ _ _ _ _ c.from_residual-in_err-body.ensures (then_off shell _ (c.in_ok-test.ensures.reads) _ (then_off shell _ (c.in_ok-rest.ensures.reads c.args.left) _ (c.in_err-body.ensures.reads)))

pub branch-returns-clause-reads : goal.branch-returns-clause-reads
branch-returns-clause-reads t c = rw (branch_made c.in_ok-test.test c.in_ok-body.body) (then_on shell (c.in_ok-test.ensures.reads) (then_on shell (c.in_ok-rest.ensures.reads c.args.left) (c.in_ok-body.ensures.reads)))

pub elif_branch-returns-in_err-rest-clause-reads : goal.elif_branch-returns-in_err-rest-clause-reads
elif_branch-returns-in_err-rest-clause-reads t c = off c.args.left _ _ _ _ _ c.from_residual.ensures (then_exit shell c.args.left _ _ _ _ (c.in_err-rest.ensures.reads c.args.left))

pub elif_branch-returns-in_err-branch-clause-reads : goal.elif_branch-returns-in_err-branch-clause-reads
elif_branch-returns-in_err-branch-clause-reads t c = off c.args.left _ _ _ _ _ c.from_residual-in_err-branch.ensures (then_off shell _ (c.in_ok-rest.ensures.reads c.args.left) _ (c.in_err-branch.ensures.reads))

pub elif_branch-returns-clause-reads : goal.elif_branch-returns-clause-reads
elif_branch-returns-clause-reads t c = then_on shell (c.in_ok-rest.ensures.reads c.args.left) (c.in_ok-branch.ensures.reads)

pub do_block-returns-in_err-rest-clause-reads : goal.do_block-returns-in_err-rest-clause-reads
do_block-returns-in_err-rest-clause-reads t c = off c.args.left _ _ _ _ _ c.from_residual.ensures (then_exit shell c.args.left _ _ _ _ (c.in_err-rest.ensures.reads c.args.left))

pub do_block-returns-in_err-script-clause-reads : goal.do_block-returns-in_err-script-clause-reads
do_block-returns-in_err-script-clause-reads t c = off c.args.left _ _ _ _ _ c.from_residual-in_err-script.ensures (then_off shell _ (c.in_ok-rest.ensures.reads c.args.left) _ (then_exit shell c.args.left _ _ _ _ (c.in_err-script.ensures.reads)))

pub do_block-returns-in_err-rest-2-clause-reads : goal.do_block-returns-in_err-rest-2-clause-reads
do_block-returns-in_err-rest-2-clause-reads t c = off c.args.left _ _ _ _ _ c.from_residual-in_err-rest-2.ensures (then_off shell _ (c.in_ok-rest.ensures.reads c.args.left) _ (then_off shell _ (c.in_ok-script.ensures.reads) _ (c.in_err-rest-2.ensures.reads c.args.left)))

pub do_block-returns-clause-reads : goal.do_block-returns-clause-reads
do_block-returns-clause-reads t c = then_on shell (c.in_ok-rest.ensures.reads c.args.left) (then_on shell (c.in_ok-script.ensures.reads) (c.in_ok-rest-2.ensures.reads c.args.left))

pub item-returns-in_err-patterns-clause-reads : goal.item-returns-in_err-patterns-clause-reads
item-returns-in_err-patterns-clause-reads t c = off c.args.left _ _ _ _ _ c.from_residual.ensures (then_exit shell c.args.left _ _ _ _ (c.in_err-patterns.ensures.reads))

pub item-returns-in_err-rest-clause-reads : goal.item-returns-in_err-rest-clause-reads
item-returns-in_err-rest-clause-reads t c = off c.args.left _ _ _ _ _ c.from_residual-in_err-rest.ensures (then_off shell _ (c.in_ok-patterns.ensures.reads) _ (then_exit shell c.args.left _ _ _ _ (c.in_err-rest.ensures.reads c.args.left)))

pub item-returns-in_err-body-clause-reads : goal.item-returns-in_err-body-clause-reads
item-returns-in_err-body-clause-reads t c = off c.args.left _ _ _ _ _ c.from_residual-in_err-body.ensures (then_off shell _ (c.in_ok-patterns.ensures.reads) _ (then_off shell _ (c.in_ok-rest.ensures.reads c.args.left) _ (then_off shell _ (c.newlines-rest.ensures.reads c.args.left) _ (c.in_err-body.ensures.reads))))

pub item-returns-clause-reads : goal.item-returns-clause-reads
item-returns-clause-reads t c = rw (item_made c.in_ok-patterns.patterns c.in_ok-body.body) (then_on shell (c.in_ok-patterns.ensures.reads) (then_on shell (c.in_ok-rest.ensures.reads c.args.left) (then_on shell (c.newlines-rest.ensures.reads c.args.left) (c.in_ok-body.ensures.reads))))

pub branches-returns-in_err-first-clause-reads : goal.branches-returns-in_err-first-clause-reads
branches-returns-in_err-first-clause-reads t c = off c.args.left _ _ _ _ _ c.from_residual.ensures (then_exit shell c.args.left _ _ _ _ (c.in_err-first.ensures.reads))

pub branches-loop-alloc-init : goal.branches-loop-alloc-init
branches-loop-alloc-init t c = record { shorter = c.in_ok-first.ensures.shorter; turns = start_parted branch_pattern (reserved Elif) c.new-branches.result.items c.in_ok-first.ensures.reads c.new-branches.ensures.items c.in_ok-push.ensures.items }

pub branches-returns-in_err-next-clause-reads : goal.branches-returns-in_err-next-clause-reads
branches-returns-in_err-next-clause-reads t c = off c.args.left _ _ _ _ _ c.from_residual-in_err-next.ensures (exit_many shell shell_firm c.loop-alloc.invariant.turns refl (sym c.opens.ensures ∙ c.loop-alloc-test.true) _ (c.in_err-next.ensures.reads))

pub branches-loop-alloc-preserved : goal.branches-loop-alloc-preserved
branches-loop-alloc-preserved t c = record { shorter = omega (arith, c.loop-alloc.invariant.shorter, c.in_ok-next.ensures.shorter); turns = step_parted branch_pattern (reserved Elif) c.loop-alloc.branches.items c.loop-alloc.invariant.turns refl (sym c.opens.ensures ∙ c.loop-alloc-test.true) c.in_ok-next.ensures.reads c.in_ok-push-2.ensures.items }

pub branches-returns-clause-reads : goal.branches-returns-clause-reads
branches-returns-clause-reads t c = end_many shell c.loop-alloc.invariant.turns (sym c.opens.ensures ∙ c.loop-alloc-test.false)

pub other-returns-in_err-rest-clause-reads : goal.other-returns-in_err-rest-clause-reads
other-returns-in_err-rest-clause-reads t c = off c.args.left _ _ _ _ _ c.from_residual.ensures (gives_left shell c.args.left _ _ _ _ (sym c.opens.ensures ∙ c.if-opens.true) (then_exit shell c.args.left _ _ _ _ (c.in_err-rest.ensures.reads c.args.left)))

pub other-returns-in_err-script-clause-reads : goal.other-returns-in_err-script-clause-reads
other-returns-in_err-script-clause-reads t c = off c.args.left _ _ _ _ _ c.from_residual-in_err-script.ensures (gives_left shell c.args.left _ _ _ _ (sym c.opens.ensures ∙ c.if-opens.true) (then_off shell _ (c.in_ok-rest.ensures.reads c.args.left) _ (c.in_err-script.ensures.reads)))

pub other-returns-then-opens-clause-reads : goal.other-returns-then-opens-clause-reads
other-returns-then-opens-clause-reads t c = left_on shell (sym c.opens.ensures ∙ c.if-opens.true) (then_on shell (c.in_ok-rest.ensures.reads c.args.left) (c.in_ok-script.ensures.reads))

pub other-returns-clause-reads : goal.other-returns-clause-reads
other-returns-clause-reads t c = right_on shell refl (sym c.opens.ensures ∙ c.if-opens.false) (reads_empty shell c.args.left _)

pub items-returns-in_err-items-clause-reads : goal.items-returns-in_err-items-clause-reads
items-returns-in_err-items-clause-reads t c = off c.args.left _ _ _ _ _ c.from_residual.ensures (gives_left shell c.args.left _ _ _ _ (sym c.opens_item.ensures ∙ c.if-opens_item.true) (c.in_err-items.ensures.reads))

pub items-returns-then-opens_item-clause-reads : goal.items-returns-then-opens_item-clause-reads
items-returns-then-opens_item-clause-reads t c = left_on shell (sym c.opens_item.ensures ∙ c.if-opens_item.true) (rows_of_items (map item_pattern c.in_ok-items.items.items) c.in_ok-items.ensures.reads)

pub items-returns-clause-reads : goal.items-returns-clause-reads
items-returns-clause-reads t c = rw c.new.ensures.items (right_on shell refl (sym c.opens_item.ensures ∙ c.if-opens_item.false) (reads_empty shell c.args.left _))

pub item_row-returns-in_err-first-clause-reads : goal.item_row-returns-in_err-first-clause-reads
item_row-returns-in_err-first-clause-reads t c = off c.args.left _ _ _ _ _ c.from_residual.ensures (then_exit shell c.args.left _ _ _ _ (c.in_err-first.ensures.reads))

pub item_row-loop-alloc-init : goal.item_row-loop-alloc-init
item_row-loop-alloc-init t c = record { shorter = c.in_ok-first.ensures.shorter; turns = start_parted item_pattern item_end c.new-items.result.items c.in_ok-first.ensures.reads c.new-items.ensures.items c.in_ok-push.ensures.items }

pub item_row-returns-in_err-after-clause-reads : goal.item_row-returns-in_err-after-clause-reads
item_row-returns-in_err-after-clause-reads t c = off c.args.left _ _ _ _ _ c.from_residual-in_err-after.ensures (exit_sep shell shell_firm c.loop-alloc.invariant.turns refl (sym c.opens.ensures ∙ c.loop-alloc-test.true) _ (then_exit shell c.args.left _ _ _ _ (c.in_err-after.ensures.reads c.args.left)))

pub item_row-returns-then-not-opens_item-clause-reads : goal.item_row-returns-then-not-opens_item-clause-reads
item_row-returns-then-not-opens_item-clause-reads t c = end_row c.loop-alloc.invariant.turns refl (sym c.opens.ensures ∙ c.loop-alloc-test.true) (then_on shell (c.in_ok-after.ensures.reads c.args.left) (c.newlines-after.ensures.reads c.args.left)) refl (sym c.opens_item.ensures ∙ c.if-not-opens_item.true)

pub item_row-returns-in_err-next-clause-reads : goal.item_row-returns-in_err-next-clause-reads
item_row-returns-in_err-next-clause-reads t c = off c.args.left _ _ _ _ _ c.from_residual-in_err-next.ensures (exit_row shell shell_firm c.loop-alloc.invariant.turns refl (sym c.opens.ensures ∙ c.loop-alloc-test.true) (then_on shell (c.in_ok-after.ensures.reads c.args.left) (c.newlines-after.ensures.reads c.args.left)) (sym c.opens_item.ensures ∙ c.if-not-opens_item.false) _ (c.in_err-next.ensures.reads))

pub item_row-loop-alloc-preserved : goal.item_row-loop-alloc-preserved
item_row-loop-alloc-preserved t c = record { shorter = omega (arith, c.loop-alloc.invariant.shorter, c.in_ok-after.ensures.shorter, c.newlines-after.ensures.within, c.in_ok-next.ensures.shorter); turns = step_row item_pattern item_end c.loop-alloc.items.items c.loop-alloc.invariant.turns refl (sym c.opens.ensures ∙ c.loop-alloc-test.true) (then_on shell (c.in_ok-after.ensures.reads c.args.left) (c.newlines-after.ensures.reads c.args.left)) (sym c.opens_item.ensures ∙ c.if-not-opens_item.false) c.in_ok-next.ensures.reads c.in_ok-push-2.ensures.items }

pub item_row-returns-clause-reads : goal.item_row-returns-clause-reads
item_row-returns-clause-reads t c = row_end item_end (end_more shell c.loop-alloc.invariant.turns (sym c.opens.ensures ∙ c.loop-alloc-test.false))

pub patterns-returns-in_err-first-clause-reads : goal.patterns-returns-in_err-first-clause-reads
patterns-returns-in_err-first-clause-reads t c = off c.args.left _ _ _ _ _ c.from_residual.ensures (then_exit shell c.args.left _ _ _ _ (c.in_err-first.ensures.reads))

pub patterns-loop-alloc-init : goal.patterns-loop-alloc-init
patterns-loop-alloc-init t c = record { shorter = c.in_ok-first.ensures.shorter; turns = start_patterns word_spelling c.new-patterns.result.items c.in_ok-first.ensures.reads c.new-patterns.ensures.items c.in_ok-push.ensures.items }

pub patterns-returns-in_err-next-clause-reads : goal.patterns-returns-in_err-next-clause-reads
patterns-returns-in_err-next-clause-reads t c = off c.args.left _ _ _ _ _ c.from_residual-in_err-next.ensures (exit_many shell shell_firm c.loop-alloc.invariant.turns refl (sym c.opens.ensures ∙ c.loop-alloc-test.true) _ (c.in_err-next.ensures.reads))

pub patterns-loop-alloc-preserved : goal.patterns-loop-alloc-preserved
patterns-loop-alloc-preserved t c = record { shorter = omega (arith, c.loop-alloc.invariant.shorter, c.in_ok-next.ensures.shorter); turns = step_patterns word_spelling c.loop-alloc.patterns.items c.loop-alloc.invariant.turns refl (sym c.opens.ensures ∙ c.loop-alloc-test.true) c.in_ok-next.ensures.reads c.in_ok-push-2.ensures.items }

pub patterns-returns-clause-reads : goal.patterns-returns-clause-reads
patterns-returns-clause-reads t c = end_many shell c.loop-alloc.invariant.turns (sym c.opens.ensures ∙ c.loop-alloc-test.false)

pub first_pattern-returns-in_err-rest-clause-reads : goal.first_pattern-returns-in_err-rest-clause-reads
first_pattern-returns-in_err-rest-clause-reads t c = off c.args.left _ _ _ _ _ c.from_residual.ensures (gives_left shell c.args.left _ _ _ _ (sym c.opens.ensures ∙ c.if-opens.true) (then_exit shell c.args.left _ _ _ _ (c.in_err-rest.ensures.reads c.args.left)))

pub first_pattern-returns-in_err-pattern-clause-reads : goal.first_pattern-returns-in_err-pattern-clause-reads
first_pattern-returns-in_err-pattern-clause-reads t c = off c.args.left _ _ _ _ _ c.from_residual-in_err-pattern.ensures (gives_left shell c.args.left _ _ _ _ (sym c.opens.ensures ∙ c.if-opens.true) (then_off shell _ (c.in_ok-rest.ensures.reads c.args.left) _ (c.in_err-pattern.ensures.reads)))

pub first_pattern-returns-then-opens-clause-reads : goal.first_pattern-returns-then-opens-clause-reads
first_pattern-returns-then-opens-clause-reads t c = first_left (word_spelling c.in_ok-pattern.pattern) (sym c.opens.ensures ∙ c.if-opens.true) (then_on shell (c.in_ok-rest.ensures.reads c.args.left) (c.in_ok-pattern.ensures.reads))

pub first_pattern-returns-in_err-rest-2-clause-reads : goal.first_pattern-returns-in_err-rest-2-clause-reads
first_pattern-returns-in_err-rest-2-clause-reads t c = off c.args.left _ _ _ _ _ c.from_residual-in_err-rest-2.ensures (gives_right shell c.args.left _ _ _ _ refl (sym c.opens.ensures ∙ c.if-opens.false) (then_exit shell c.args.left _ _ _ _ (c.in_err-rest-2.ensures.reads c.args.left)))

pub first_pattern-returns-in_err-pattern-2-clause-reads : goal.first_pattern-returns-in_err-pattern-2-clause-reads
first_pattern-returns-in_err-pattern-2-clause-reads t c = off c.args.left _ _ _ _ _ c.from_residual-in_err-pattern-2.ensures (gives_right shell c.args.left _ _ _ _ refl (sym c.opens.ensures ∙ c.if-opens.false) (then_off shell _ (c.in_ok-rest-2.ensures.reads c.args.left) _ (c.in_err-pattern-2.ensures.reads)))

pub first_pattern-returns-clause-reads : goal.first_pattern-returns-clause-reads
first_pattern-returns-clause-reads t c = first_right (word_spelling c.in_ok-pattern-2.pattern) (sym c.opens.ensures ∙ c.if-opens.false) (then_on shell (c.in_ok-rest-2.ensures.reads c.args.left) (c.in_ok-pattern-2.ensures.reads))

pub pattern_behind-returns-in_err-rest-clause-reads : goal.pattern_behind-returns-in_err-rest-clause-reads
pattern_behind-returns-in_err-rest-clause-reads t c = off c.args.left _ _ _ _ _ c.from_residual.ensures (then_exit shell c.args.left _ _ _ _ (then_exit shell c.args.left _ _ _ _ (c.in_err-rest.ensures.reads c.args.left)))

pub pattern_behind-returns-in_err-pattern-clause-reads : goal.pattern_behind-returns-in_err-pattern-clause-reads
pattern_behind-returns-in_err-pattern-clause-reads t c = off c.args.left _ _ _ _ _ c.from_residual-in_err-pattern.ensures (then_off shell _ (then_on shell (c.in_ok-rest.ensures.reads c.args.left) (c.newlines-rest.ensures.reads c.args.left)) _ (c.in_err-pattern.ensures.reads))

pub pattern_behind-returns-clause-reads : goal.pattern_behind-returns-clause-reads
pattern_behind-returns-clause-reads t c = assoc_both (c.in_ok-rest.ensures.reads c.args.left) (c.newlines-rest.ensures.reads c.args.left) (c.in_ok-pattern.ensures.reads)
