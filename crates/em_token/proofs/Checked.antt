-- The grammar is LL(1), and what it has begun can always be completed.
use Rattle.std.proofs.Common.{◌≡◌, ℕ, ◌==◌, ◌||◌, Bool, true, false, List, [], ◌∷◌, map, refl, sym}
use Rattle.std.proofs.lemmas.Bool.{eqb-true}
use Rattle.em_grammar.specs.Production.{is_among, Ending, IsWith}
use Rattle.em_grammar.specs.Checks.{decided, lives, stays, firm, within}
use Rattle.em_grammar.specs.Machine.{run, fault, first_set, nullable}
use Rattle.em_grammar.proofs.Reading.{Decided, Spelled, Rightly, right_alone, named, names}
use Rattle.em_lexeme.specs.declared.lexeme.What.{What}
use Rattle.em_lexeme.specs.declared.lexeme.Start.{Start}
use Rattle.em_token.specs.Kinds.{class_of, words}
use Rattle.em_token.specs.Shell.{shell, list, line}

pub list_ll1 : decided shell list shell.list_follow ≡ true
list_ll1 = refl

pub list_some : nullable list ≡ false
list_some = refl

pub list_begin : within (first_set shell.list_first list) shell.list_first ≡ true
list_begin = refl

pub shell_firm : firm list ≡ true
shell_firm = refl

pub shell_decided : Decided shell
shell_decided = record { list = list_ll1; some = list_some; begin = list_begin }

-- a lexeme of each class
abbrev every : List What
every =
    What.WordStart Start.Plain ∷ What.WordStart Start.Name ∷ What.WordStart Start.Assignment ∷ What.WordStart Start.Bang ∷ What.WordStart Start.If ∷ What.WordStart Start.Then ∷
    What.WordStart Start.Elif ∷ What.WordStart Start.Else ∷ What.WordStart Start.Fi ∷ What.WordStart Start.While ∷ What.WordStart Start.Until ∷ What.WordStart Start.Do ∷
    What.WordStart Start.Done ∷ What.WordStart Start.For ∷ What.WordStart Start.In ∷ What.WordStart Start.Case ∷ What.WordStart Start.Esac ∷ What.WordStart Start.LeftBrace ∷
    What.WordStart Start.RightBrace ∷ What.WordEnd ∷ What.Bytes false [] ∷ What.Bytes false (61 ∷ []) ∷ What.Value false [] [] ∷ What.ArgumentStart false [] [] ∷ What.ArgumentEnd ∷
    What.SubstitutionStart false ∷ What.SubstitutionEnd ∷ What.Newline ∷ What.Semicolon ∷ What.CaseEnd ∷ What.AndIf ∷ What.OrIf ∷ What.Pipe ∷ What.LeftParen ∷ What.RightParen ∷
    What.Number 1 ∷ What.Less ∷ What.Great ∷ What.DoubleGreat ∷ What.GreatAnd ∷ []

abbrev pub classes : List ℕ
classes = map class_of every

spell_among : (ws : List What) (c : ℕ) → is_among c (map class_of ws) ≡ true → (t : What) × (class_of t ≡ c)
spell_among [] c m = absurd cc
spell_among (w ∷ ws) c m =
    elim (c == class_of w) as (λ b. (c == class_of w) ≡ b → (b || is_among c (map class_of ws)) ≡ true → (t : What) × (class_of t ≡ c)) [
      | true ↦ λ e n. (w, sym (eqb-true c (class_of w) e))
      | false ↦ λ e n. spell_among ws c n
    ] refl m

lives_list : (b : Bool) → lives b classes words list false ≡ true
lives_list true = refl
lives_list false = refl

stays_list : (b : Bool) → stays b classes words list false ≡ true
stays_list true = refl
stays_list false = refl

pub shell_spelled : Spelled shell classes words
shell_spelled = record { spell = spell_among every; lives_list = lives_list; stays_list = stays_list }

line_ll1 : decided shell line [] ≡ true
line_ll1 = refl

line_lives : lives true classes words line true ≡ true
line_lives = refl

line_stays : stays true classes words line true ≡ true
line_stays = refl

-- what the machine says of a whole line
pub line_right : (ts : List What) → Rightly shell shell_decided classes words shell_spelled ((64, line) ∷ []) ts (run shell ((64, line) ∷ []) ts)
line_right ts = right_alone shell shell_decided classes words shell_spelled 64 line line_ll1 line_lives line_stays ts

-- and of a construct that may end it
pub line_named : (ending : Ending What) → ((us : List What) → ending 0 us ≡ false) → (ts : List What) (c : ℕ) (rest : List What) → run shell ((64, line) ∷ []) ts ≡ fault c rest → ending c rest ≡ true → IsWith class_of ending list 64 line ts
line_named ending real ts c rest r m = named shell shell_decided classes words shell_spelled ending real 64 line ts c rest r m

pub line_names : (ending : Ending What) → ((us : List What) → ending 0 us ≡ false) → (ts : List What) (c : ℕ) (rest : List What) → run shell ((64, line) ∷ []) ts ≡ fault c rest → IsWith class_of ending list 64 line ts → ending c rest ≡ true
line_names ending real ts c rest is h = names shell shell_decided classes words shell_spelled 64 line line_ll1 line_lives line_stays ending real ts c rest is h
