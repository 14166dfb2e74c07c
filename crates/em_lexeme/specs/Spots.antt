-- Where commands may begin: as much of the grammar as tells which bracket ends the patterns of a
-- `case`.
use Rattle.std.specs.Prelude.{ℕ, ◌&&◌, Bool, true, false, List, ◌∷◌, drop, slice_get, Option, if◌then◌else◌}
use Rattle.em_lexeme.specs.Frames.{is_cases}
use Rattle.em_lexeme.specs.declared.frame.Frame.TheVariants.{Cases}
use Rattle.em_lexeme.specs.declared.frame.Frame.{Frame}
use Rattle.em_lexeme.specs.declared.lexeme.Start.TheVariants.{Bang, If, Then, Elif, Else, Fi, While, Until, Do, Done, In, Case, Esac, LeftBrace, RightBrace}
use Rattle.em_lexeme.specs.declared.lexeme.Start.{Start}
use Rattle.em_lexeme.specs.declared.lexeme.What.TheVariants.{Newline, CaseEnd, Pipe, Less, Great, DoubleGreat, GreatAnd}
use Rattle.em_lexeme.specs.declared.lexeme.What.{What}
use Rattle.em_lexeme.specs.declared.spot.Spot.TheVariants.{Command, Closed, Operand, Target, Duplicate, Subject, Inside, Item, Pattern}
use Rattle.em_lexeme.specs.declared.spot.Spot.{Spot}

abbrev pub is_item : Spot → Bool
is_item Item = true
is_item _ = false

abbrev pub is_pattern : Spot → Bool
is_pattern Pattern = true
is_pattern _ = false

abbrev pub is_closed : Spot → Bool
is_closed Closed = true
is_closed _ = false

abbrev pub item_or_command : Bool → Spot
item_or_command item = if item then Item else Command

abbrev pub pattern_or_command : Bool → Spot
pattern_or_command pattern = if pattern then Pattern else Command

-- behind a newline: one may stand before an item, and behind the `|` between patterns
abbrev pub spot_past : Spot → Spot
spot_past Item = Item
spot_past Pattern = Pattern
spot_past _ = Command

-- where the word of a redirection stands, and behind it: a compound command stays closed, so that
-- a reserved word may follow its redirections
abbrev pub target_of : Bool → Spot
target_of closed = if closed then Target else Operand

abbrev pub behind_target : Bool → Spot
behind_target closed = if closed then Closed else Operand

-- behind an operator, which began at `at`: `;;` ends an item where a `case` is open, `|` stands
-- between patterns too, and a redirection is part of the command before it
abbrev pub spot_behind : What → Option Frame → Spot → ℕ → Spot
spot_behind CaseEnd f spot at = item_or_command (is_cases f)
spot_behind Pipe f spot at = pattern_or_command (is_pattern spot)
spot_behind Less f spot at = target_of (is_closed spot)
spot_behind Great f spot at = target_of (is_closed spot)
spot_behind DoubleGreat f spot at = target_of (is_closed spot)
spot_behind GreatAnd f spot at = Duplicate at (is_closed spot)
spot_behind Newline f spot at = spot_past spot
spot_behind _ f spot at = Command

-- the reserved words behind which a command begins
abbrev pub joins : Start → Bool
joins Bang = true
joins If = true
joins Then = true
joins Elif = true
joins Else = true
joins While = true
joins Until = true
joins Do = true
joins LeftBrace = true
joins _ = false

abbrev pub is_case : Start → Bool
is_case Case = true
is_case _ = false

abbrev pub is_esac : Start → Bool
is_esac Esac = true
is_esac _ = false

abbrev pub is_in : Start → Bool
is_in In = true
is_in _ = false

-- the reserved words that end a compound command
abbrev pub ends : Start → Bool
ends Fi = true
ends Done = true
ends Esac = true
ends RightBrace = true
ends _ = false

-- behind the beginning of a word
abbrev pub spot_in_command : Start → Spot
spot_in_command w =
    if ends w then Closed
    else if joins w then Command
    else if is_case w then Subject
    else Operand

abbrev pub spot_in_inside : Start → Spot
spot_in_inside w = if is_in w then Item else Operand

abbrev pub spot_in_item : Start → Spot
spot_in_item w = if is_esac w then Closed else Pattern

abbrev pub spot_in : Spot → Start → Spot
spot_in Command w = spot_in_command w
spot_in Closed w = spot_in_command w
spot_in Operand w = Operand
spot_in Target w = Closed
spot_in (Duplicate at closed) w = behind_target closed
spot_in Subject w = Inside
spot_in Inside w = spot_in_inside w
spot_in Item w = spot_in_item w
spot_in Pattern w = Pattern

-- where a word is `case`, or `esac`, as a reserved word
abbrev pub opens_cases : Spot → Start → Bool
opens_cases Command w = is_case w
opens_cases Closed w = is_case w
opens_cases _ w = false

abbrev pub closes_cases : Spot → Start → Bool
closes_cases Command w = is_esac w
closes_cases Closed w = is_esac w
closes_cases Item w = is_esac w
closes_cases _ w = false

abbrev pub cases_in : Spot → Start → List Frame → List Frame
cases_in spot w fs =
    if opens_cases spot w then Cases ∷ fs
    else if closes_cases spot w && is_cases (slice_get fs 0) then drop 1 fs
    else fs
