use Rattle.std.proofs.Common.{◌+◌, ◌*◌, ◌<◌, ◌≤◌, length, map, List, []}
use Rattle.em_grammar.specs.Production.{many, more, ◌⨾◌}
use Rattle.em_grammar.specs.Gives.{Turns, Moves, Spells, all, parted}
use Rattle.em_lexeme.specs.declared.lexeme.What.{What}
use Rattle.em_token.specs.Kinds.{whats}
use Rattle.em_token.specs.Shell as Grammar
use Rattle.em_token.specs.Shell.{shell, Expr, key}
use Rattle.em_gram.specs.Patterns as Tree
use Rattle.em_gram.specs.Nesting.{nest_parts, nest_depth, IsCounted}
use Rattle.em_gram.specs.Simple.{so_far}
use Rattle.em_token.specs.declared.kind.Kind.TheVariants.{Pipe, WordEnd, Elif}
use Rattle.em_gram.proofs.parser.+parser.Given as goal

abbrev pub decreases-list : goal.decreases-list
decreases-list l = 64 * l.left + 50

abbrev pub decreases-and_or : goal.decreases-and_or
decreases-and_or l = 64 * l.left + 49

abbrev pub decreases-joined : goal.decreases-joined
decreases-joined l = 64 * l.left + 48

abbrev pub decreases-pipeline : goal.decreases-pipeline
decreases-pipeline l = 64 * l.left + 47

abbrev pub decreases-stages : goal.decreases-stages
decreases-stages l = 64 * l.left + 46

abbrev pub decreases-stage : goal.decreases-stage
decreases-stage l = 64 * l.left + 45

abbrev pub decreases-command : goal.decreases-command
decreases-command l = 64 * l.left + 44

abbrev pub decreases-compound : goal.decreases-compound
decreases-compound l = 64 * l.left + 43

abbrev pub decreases-conditional : goal.decreases-conditional
decreases-conditional l = 64 * l.left + 42

abbrev pub decreases-loop_ : goal.decreases-loop_
decreases-loop_ l = 64 * l.left + 42

abbrev pub decreases-for_ : goal.decreases-for_
decreases-for_ l = 64 * l.left + 42

abbrev pub decreases-choice : goal.decreases-choice
decreases-choice l = 64 * l.left + 42

abbrev pub decreases-subshell : goal.decreases-subshell
decreases-subshell l = 64 * l.left + 42

abbrev pub decreases-group : goal.decreases-group
decreases-group l = 64 * l.left + 42

abbrev pub decreases-items : goal.decreases-items
decreases-items l = 64 * l.left + 41

abbrev pub decreases-branches : goal.decreases-branches
decreases-branches l = 64 * l.left + 41

abbrev pub decreases-elif_branch : goal.decreases-elif_branch
decreases-elif_branch l = 64 * l.left + 40

abbrev pub decreases-item_row : goal.decreases-item_row
decreases-item_row l = 64 * l.left + 40

abbrev pub decreases-branch : goal.decreases-branch
decreases-branch l = 64 * l.left + 39

abbrev pub decreases-other : goal.decreases-other
decreases-other l = 64 * l.left + 39

abbrev pub decreases-item : goal.decreases-item
decreases-item l = 64 * l.left + 39

abbrev pub decreases-do_block : goal.decreases-do_block
decreases-do_block l = 64 * l.left + 39

abbrev pub decreases-patterns : goal.decreases-patterns
decreases-patterns l = 64 * l.left + 38

abbrev pub decreases-pattern_behind : goal.decreases-pattern_behind
decreases-pattern_behind l = 64 * l.left + 37

abbrev pub decreases-first_pattern : goal.decreases-first_pattern
decreases-first_pattern l = 64 * l.left + 37

abbrev pub decreases-words : goal.decreases-words
decreases-words l = 64 * l.left + 38

abbrev pub decreases-redirects : goal.decreases-redirects
decreases-redirects l = 64 * l.left + 38

abbrev pub decreases-simple : goal.decreases-simple
decreases-simple l = 64 * l.left + 38

abbrev pub decreases-prefixed : goal.decreases-prefixed
decreases-prefixed l = 64 * l.left + 37

abbrev pub decreases-named : goal.decreases-named
decreases-named l = 64 * l.left + 37

abbrev pub decreases-plain : goal.decreases-plain
decreases-plain l = 64 * l.left + 37

abbrev pub decreases-words_behind : goal.decreases-words_behind
decreases-words_behind l = 64 * l.left + 36

abbrev pub decreases-with_arguments : goal.decreases-with_arguments
decreases-with_arguments l = 64 * l.left + 35

abbrev pub decreases-arguments : goal.decreases-arguments
decreases-arguments l = 64 * l.left + 34

abbrev pub decreases-argument : goal.decreases-argument
decreases-argument l = 64 * l.left + 33

abbrev pub decreases-prefix : goal.decreases-prefix
decreases-prefix l = 64 * l.left + 33

abbrev pub decreases-redirect : goal.decreases-redirect
decreases-redirect l = 64 * l.left + 32

abbrev pub decreases-target : goal.decreases-target
decreases-target l = 64 * l.left + 31

abbrev pub decreases-assigned : goal.decreases-assigned
decreases-assigned l = 64 * l.left + 31

abbrev pub decreases-word : goal.decreases-word
decreases-word l = 64 * l.left + 30

abbrev pub decreases-word_rest : goal.decreases-word_rest
decreases-word_rest l = 64 * l.left + 29

abbrev pub decreases-word_step : goal.decreases-word_step
decreases-word_step l = 64 * l.left + 28

abbrev pub decreases-piece : goal.decreases-piece
decreases-piece l = 64 * l.left + 27

abbrev pub decreases-output : goal.decreases-output
decreases-output l = 64 * l.left + 26

abbrev pub decreases-block : goal.decreases-block
decreases-block l = 64 * l.left + 20

abbrev pub decreases-body : goal.decreases-body
decreases-body l = 64 * l.left + 20

abbrev pub invariant-words-loop-alloc : goal.invariant-words-loop-alloc
invariant-words-loop-alloc l = record {
  within : length l.rest ≤ length l.fn.tokens;
  turns : Turns shell l.fn.left (many Grammar.word) (whats l.fn.tokens) (all (map (λ w. Tree.any_word (Tree.word_spelling w)) l.words.items)) (many Grammar.word) (whats l.rest);
}

abbrev pub decreases-words-loop-alloc : goal.decreases-words-loop-alloc
decreases-words-loop-alloc l = length l.rest

abbrev pub invariant-redirects-loop-alloc : goal.invariant-redirects-loop-alloc
invariant-redirects-loop-alloc l = record {
  within : length l.rest ≤ length l.fn.tokens;
  turns : Turns shell l.fn.left (many Grammar.redirect) (whats l.fn.tokens) (all (map Tree.redirect_pattern l.redirects.items)) (many Grammar.redirect) (whats l.rest);
}

abbrev pub decreases-redirects-loop-alloc : goal.decreases-redirects-loop-alloc
decreases-redirects-loop-alloc l = length l.rest

abbrev pub invariant-list-loop-alloc : goal.invariant-list-loop-alloc
invariant-list-loop-alloc l = record {
  shorter : length l.rest < length l.fn.tokens;
  turns : Turns shell l.fn.left Grammar.list (whats l.fn.tokens) (parted Grammar.sequential (map Tree.and_or_pattern l.list.items)) (more Grammar.and_or Grammar.separator) (whats l.rest);
}

abbrev pub decreases-list-loop-alloc : goal.decreases-list-loop-alloc
decreases-list-loop-alloc l = length l.rest

abbrev pub invariant-and_or-loop-alloc : goal.invariant-and_or-loop-alloc
invariant-and_or-loop-alloc l = record {
  shorter : length l.rest < length l.fn.tokens;
  turns : Turns shell l.fn.left Grammar.and_or (whats l.fn.tokens) (Tree.pipeline_pattern l.first ⨾ all (map Tree.joined_pattern l.joined_on.items)) (many Grammar.joined) (whats l.rest);
}

abbrev pub decreases-and_or-loop-alloc : goal.decreases-and_or-loop-alloc
decreases-and_or-loop-alloc l = length l.rest

abbrev pub invariant-stages-loop-alloc : goal.invariant-stages-loop-alloc
invariant-stages-loop-alloc l = record {
  shorter : length l.rest < length l.fn.tokens;
  turns : Turns shell l.fn.left Grammar.stages (whats l.fn.tokens) (parted (key Pipe ⨾ Grammar.newlines) (map Tree.command_pattern l.stages.items)) (many Grammar.stage) (whats l.rest);
}

abbrev pub decreases-stages-loop-alloc : goal.decreases-stages-loop-alloc
decreases-stages-loop-alloc l = length l.rest

abbrev pub invariant-branches-loop-alloc : goal.invariant-branches-loop-alloc
invariant-branches-loop-alloc l = record {
  shorter : length l.rest < length l.fn.tokens;
  turns : Turns shell l.fn.left Grammar.branches (whats l.fn.tokens) (parted (Grammar.reserved Elif) (map Tree.branch_pattern l.branches.items)) (many Grammar.elif_branch) (whats l.rest);
}

abbrev pub decreases-branches-loop-alloc : goal.decreases-branches-loop-alloc
decreases-branches-loop-alloc l = length l.rest

abbrev pub invariant-item_row-loop-alloc : goal.invariant-item_row-loop-alloc
invariant-item_row-loop-alloc l = record {
  shorter : length l.rest < length l.fn.tokens;
  turns : Turns shell l.fn.left (Grammar.item ⨾ more Grammar.item Grammar.item_end) (whats l.fn.tokens) (parted Grammar.item_end (map Tree.item_pattern l.items.items)) (more Grammar.item Grammar.item_end) (whats l.rest);
}

abbrev pub decreases-item_row-loop-alloc : goal.decreases-item_row-loop-alloc
decreases-item_row-loop-alloc l = length l.rest

abbrev pub invariant-patterns-loop-alloc : goal.invariant-patterns-loop-alloc
invariant-patterns-loop-alloc l = record {
  shorter : length l.rest < length l.fn.tokens;
  turns : Turns shell l.fn.left Grammar.patterns (whats l.fn.tokens) (Tree.patterns_of (map Tree.word_spelling l.patterns.items)) (many Grammar.pattern_more) (whats l.rest);
}

abbrev pub decreases-patterns-loop-alloc : goal.decreases-patterns-loop-alloc
decreases-patterns-loop-alloc l = length l.rest

abbrev pub invariant-prefixed-loop-assignments : goal.invariant-prefixed-loop-assignments
invariant-prefixed-loop-assignments l = record {
  shorter : length l.rest < length l.fn.tokens;
  moves : Moves shell l.fn.left Grammar.prefixed (whats l.fn.tokens) (many Grammar.prefix ⨾ Grammar.words_behind) (whats l.rest);
  spells : Spells shell (so_far (map Tree.assigned_pattern l.assignments.items) [] l.redirects.items) (whats l.fn.tokens) (whats l.rest);
}

abbrev pub decreases-prefixed-loop-assignments : goal.decreases-prefixed-loop-assignments
decreases-prefixed-loop-assignments l = length l.rest

abbrev pub invariant-arguments-loop-alloc : goal.invariant-arguments-loop-alloc
invariant-arguments-loop-alloc l = record {
  within : length l.rest ≤ length l.fn.tokens;
  moves : Moves shell l.fn.left Grammar.arguments (whats l.fn.tokens) Grammar.arguments (whats l.rest);
  spells : (start : List What) (assigned : List Expr) → 0 < length l.fn.words.items → Spells shell (so_far assigned l.fn.words.items l.fn.redirects.items) start (whats l.fn.tokens) → Spells shell (so_far assigned l.words.items l.redirects.items) start (whats l.rest);
  some : 0 < length l.fn.words.items → 0 < length l.words.items;
}

abbrev pub decreases-arguments-loop-alloc : goal.decreases-arguments-loop-alloc
decreases-arguments-loop-alloc l = length l.rest

abbrev pub invariant-word_rest-loop-alloc : goal.invariant-word_rest-loop-alloc
invariant-word_rest-loop-alloc l = record {
  counted : IsCounted l.nest;
  within : length l.rest ≤ length l.fn.tokens;
  turns : Turns shell l.fn.left Grammar.word_rest (whats l.fn.tokens) (all (nest_parts l.nest)) (Grammar.pieces (nest_depth l.nest) ⨾ key WordEnd) (whats l.rest);
}

abbrev pub decreases-word_rest-loop-alloc : goal.decreases-word_rest-loop-alloc
decreases-word_rest-loop-alloc l = length l.rest
