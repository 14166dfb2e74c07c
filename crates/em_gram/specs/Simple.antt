-- A simple command that is being read.
use Rattle.std.specs.Prelude.{List, ◌++◌, map}
use Rattle.em_token.specs.Shell.{Expr}
use Rattle.em_gram.specs.Patterns.{mixed, words_spelled, word_spelling, redirect_pattern}
use Rattle.em_syntax.specs.declared.tree.Word.{Word}
use Rattle.em_syntax.specs.declared.tree.Redirect.{Redirect}

-- assignments, spelled so, then words, with redirections among them
abbrev pub so_far : List Expr → List Word → List Redirect → Expr
so_far assigned words redirects = mixed (assigned ++ words_spelled (map word_spelling words)) (map redirect_pattern redirects)
