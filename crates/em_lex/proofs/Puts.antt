-- Operators, brackets, words' begins and values are put where they stand.
use Rattle.std.proofs.Common.{◌≡◌, ℕ, ◌+◌, ◌-◌, ◌<◌, ◌≤◌, ◌==◌, ◌&&◌, ◌||◌, min, Bool, false, cond, List, [], ◌∷◌, take, drop, slice_get, length, length-drop, refl, arith}
use Rattle.std.specs.Prelude.{Option, None, Some, IfSome}
use Rattle.std.specs.List.{AllByRecursion}
use Rattle.em_base.specs.declared.construct.Construct.TheVariants.{Descriptor, Redirection, Positional}
use Rattle.em_lexeme.specs.declared.lexeme.Start.{Start}
use Rattle.em_lexeme.specs.declared.lexeme.Start.TheVariants.{Plain}
use Rattle.em_lexeme.specs.declared.lexeme.What.{What}
use Rattle.em_lexeme.specs.declared.lexeme.What.TheVariants.{Semicolon, CaseEnd, Ampersand, AndIf, OrIf, Pipe, LeftParen, RightParen, Number, Less, Great, DoubleGreat, GreatAnd, Newline, Bytes, Value, ArgumentStart, ArgumentEnd, BadValue, SubstitutionStart, SubstitutionEnd}
use Rattle.em_lexeme.specs.declared.frame.Frame.{Frame}
use Rattle.em_lexeme.specs.declared.frame.Frame.TheVariants.{Round, Cases, InWord, Argument, Substitution}
use Rattle.em_lexeme.specs.declared.spot.Spot.{Spot}
use Rattle.em_lexeme.specs.declared.spot.Spot.TheVariants.{Command, Closed, Operand, Target, Duplicate, Subject, Inside, Item, Pattern}
use Rattle.em_lexeme.specs.Frames.{is_cases, without_cases, is_quoted, is_quoting}
use Rattle.em_lexeme.specs.Operators.{pair, single, zero_in, zero_at}
use Rattle.em_lexeme.specs.Spots.{is_item, is_pattern, is_closed, spot_past, target_of, behind_target, spot_behind, ends, joins, is_case, is_esac, is_in, spot_in, spot_in_command, cases_in, opens_cases, closes_cases}
use Rattle.em_lexeme.specs.Words.{reserved, whole_start, front_start, is_assigning, assignment_length, descriptor, is_number, is_dash}
use Rattle.em_lex.specs.declared.state.Byte.{Byte}
use Rattle.em_lex.specs.declared.state.Lexer.{Lexer}
use Rattle.em_lex.specs.declared.state.Mode.{Mode}
use Rattle.em_lex.specs.declared.state.Mode.TheVariants.{Ready, Opened}
use Rattle.em_lex.specs.Brackets.{refused_zero, without_zero, operated, round_opened, closed_by, round_closed}
use Rattle.em_lex.specs.Heads.{started, with_bytes, with_assignment, headed, numbered, worded, duplicated, told_at, told, fronted, entered}
use Rattle.em_lex.specs.Values.{valued, in_argument, with_start, with_word, with_pattern, spoiled, positional, substituted}
use Rattle.em_lex.specs.Steps.{top}
use Rattle.em_lex.specs.Standing.{Opens}
use Rattle.em_lex.proofs.Fits.{either, Fit, SpotFits, FrameFits, ZeroFits, Ordinary, emit, emit_start, emit_end, emit_plain, widen, refuse, open_to, at_spot, push, turn, spend, pop, all_drop, top_fits}

-- the byte that is read
pub record In (t : List ℕ) (b : Byte) : Type 0 where
  pub within : b.at < length t
  pub end : b.end ≡ b.at + 1

-- what is begun, at a place from which on nothing is put
pub record Held (t : List ℕ) (p : ℕ) (m : Mode) (s : Lexer) : Type 0 where
  pub fit : Fit t s.start (s.start + 1) m s
  pub before : s.start < p
  pub within : s.start < length t

pub newline_fits : Ordinary Newline
newline_fits = record { sized = λ m from to h. h; least = λ at m. refl; zero = λ t at. tt }

case_end : Ordinary CaseEnd
case_end = record { sized = λ m from to h. h; least = λ at m. refl; zero = λ t at. tt }

and_if : Ordinary AndIf
and_if = record { sized = λ m from to h. h; least = λ at m. refl; zero = λ t at. tt }

or_if : Ordinary OrIf
or_if = record { sized = λ m from to h. h; least = λ at m. refl; zero = λ t at. tt }

double_great : Ordinary DoubleGreat
double_great = record { sized = λ m from to h. h; least = λ at m. refl; zero = λ t at. tt }

great_and : Ordinary GreatAnd
great_and = record { sized = λ m from to h. h; least = λ at m. refl; zero = λ t at. tt }

pub pair_fits : (a b : ℕ) → IfSome (pair a b) Ordinary
pair_fits a b =
    let P = λ (o : Option What). IfSome o Ordinary in
    let doubled = either P ((a == 62) && (b == 38)) (Some GreatAnd) None great_and tt in
    let great_great = either P ((a == 62) && (b == 62)) (Some DoubleGreat) _ double_great doubled in
    let bars = either P ((a == 124) && (b == 124)) (Some OrIf) _ or_if great_great in
    let ands = either P ((a == 38) && (b == 38)) (Some AndIf) _ and_if bars in
    either P ((a == 59) && (b == 59)) (Some CaseEnd) _ case_end ands

semicolon : Ordinary Semicolon
semicolon = record { sized = λ m from to h. h; least = λ at m. refl; zero = λ t at. tt }

ampersand : Ordinary Ampersand
ampersand = record { sized = λ m from to h. h; least = λ at m. refl; zero = λ t at. tt }

pipe : Ordinary Pipe
pipe = record { sized = λ m from to h. h; least = λ at m. refl; zero = λ t at. tt }

less : Ordinary Less
less = record { sized = λ m from to h. h; least = λ at m. refl; zero = λ t at. tt }

great : Ordinary Great
great = record { sized = λ m from to h. h; least = λ at m. refl; zero = λ t at. tt }

pub single_fits : (a : ℕ) → Ordinary (single a)
single_fits a =
    let angle = either Ordinary (a == 60) Less Great less great in
    let bar = either Ordinary (a == 124) Pipe _ pipe angle in
    let and = either Ordinary (a == 38) Ampersand _ ampersand bar in
    either Ordinary (a == 59) Semicolon _ semicolon and

left_paren : Ordinary LeftParen
left_paren = record { sized = λ m from to h. h; least = λ at m. refl; zero = λ t at. tt }

right_paren : Ordinary RightParen
right_paren = record { sized = λ m from to h. h; least = λ at m. refl; zero = λ t at. tt }

pub substitution_end : Ordinary SubstitutionEnd
substitution_end = record { sized = λ m from to h. h; least = λ at m. refl; zero = λ t at. tt }

pub bytes_fit : (quoted : Bool) (text : List ℕ) → Ordinary (Bytes quoted text)
bytes_fit quoted text = record { sized = λ m from to h. h; least = λ at m. refl; zero = λ t at. tt }

value_fits : (quoted : Bool) (name form : List ℕ) → Ordinary (Value quoted name form)
value_fits quoted name form = record { sized = λ m from to h. h; least = λ at m. refl; zero = λ t at. tt }

argument_start : (quoted : Bool) (name form : List ℕ) → Ordinary (ArgumentStart quoted name form)
argument_start quoted name form = record { sized = λ m from to h. h; least = λ at m. refl; zero = λ t at. tt }

pub argument_end : Ordinary ArgumentEnd
argument_end = record { sized = λ m from to h. h; least = λ at m. refl; zero = λ t at. tt }

bad_value : Ordinary BadValue
bad_value = record { sized = λ m from to h. h; least = λ at m. refl; zero = λ t at. tt }

pub substitution_start : (quoted : Bool) → Ordinary (SubstitutionStart quoted)
substitution_start quoted = record { sized = λ m from to h. h; least = λ at m. refl; zero = λ t at. tt }

-- spots
spot_past_fits : (t : List ℕ) (spot : Spot) → SpotFits t (spot_past spot)
spot_past_fits t Item = tt
spot_past_fits t Pattern = tt
spot_past_fits t _ = tt

target_fits : (t : List ℕ) (closed : Bool) → SpotFits t (target_of closed)
target_fits t closed = either (SpotFits t) closed Target Operand tt tt

behind_target_fits : (t : List ℕ) (closed : Bool) → SpotFits t (behind_target closed)
behind_target_fits t closed = either (SpotFits t) closed Closed Operand tt tt

pub spot_behind_fits : (t : List ℕ) (what : What) (f : Option Frame) (spot : Spot) (at : ℕ) → at < length t → SpotFits t (spot_behind what f spot at)
spot_behind_fits t CaseEnd f spot at h = either (SpotFits t) (is_cases f) Item Command tt tt
spot_behind_fits t Pipe f spot at h = either (SpotFits t) (is_pattern spot) Pattern Command tt tt
spot_behind_fits t Less f spot at h = target_fits t (is_closed spot)
spot_behind_fits t Great f spot at h = target_fits t (is_closed spot)
spot_behind_fits t DoubleGreat f spot at h = target_fits t (is_closed spot)
spot_behind_fits t GreatAnd f spot at h = h
spot_behind_fits t Newline f spot at h = spot_past_fits t spot
spot_behind_fits t _ f spot at h = tt

spot_in_command_fits : (t : List ℕ) (w : Start) → SpotFits t (spot_in_command w)
spot_in_command_fits t w =
    either (SpotFits t) (ends w) Closed _ tt (either (SpotFits t) (joins w) Command _ tt
    (either (SpotFits t) (is_case w) Subject Operand tt tt))

spot_in_fits : (t : List ℕ) (spot : Spot) (w : Start) → SpotFits t (spot_in spot w)
spot_in_fits t Command w = spot_in_command_fits t w
spot_in_fits t Closed w = spot_in_command_fits t w
spot_in_fits t Operand w = tt
spot_in_fits t Target w = tt
spot_in_fits t (Duplicate at closed) w = behind_target_fits t closed
spot_in_fits t Subject w = tt
spot_in_fits t Inside w = either (SpotFits t) (is_in w) Item Operand tt tt
spot_in_fits t Item w = either (SpotFits t) (is_esac w) Closed Pattern tt tt
spot_in_fits t Pattern w = tt

cases_fit : (t : List ℕ) (spot : Spot) (w : Start) (fs : List Frame) → AllByRecursion (FrameFits t) fs → AllByRecursion (FrameFits t) (cases_in spot w fs)
cases_fit t spot w fs h =
    let P = AllByRecursion (FrameFits t) in
    either P (opens_cases spot w) (Cases ∷ fs) _ (tt, h) (either P (closes_cases spot w && is_cases (slice_get fs 0)) (drop 1 fs) fs (all_drop t fs h) h)

without_fits : (t : List ℕ) (fs : List Frame) → AllByRecursion (FrameFits t) fs → AllByRecursion (FrameFits t) (without_cases fs)
without_fits t [] h = tt
without_fits t (f ∷ fs) h = either (AllByRecursion (FrameFits t)) (is_cases (Some f)) (without_cases fs) (f ∷ fs) (without_fits t fs h.1) h

-- operators
refused_zero_fits : {t : List ℕ} {e k : ℕ} {m : Mode} {s : Lexer} (o : Option ℕ) → Fit t e k m s → ZeroFits t o → Fit t e k m (refused_zero o s)
refused_zero_fits None h is = h
refused_zero_fits (Some at) h is = refuse Descriptor at h is

without_zero_fits : {t : List ℕ} {e k : ℕ} {m : Mode} {s : Lexer} (what : What) → Fit t e k m s → Fit t e k m (without_zero what s)
without_zero_fits {t} {e} {k} {m} {s} GreatAnd h = refused_zero_fits (zero_at (slice_get s.items (length s.items - 1))) h h.zero
without_zero_fits _ h = h

refused_zero_start : (o : Option ℕ) (s : Lexer) → (refused_zero o s).start ≡ s.start
refused_zero_start None s = refl
refused_zero_start (Some at) s = refl

without_zero_start : (what : What) (s : Lexer) → (without_zero what s).start ≡ s.start
without_zero_start GreatAnd s = refused_zero_start (zero_at (slice_get s.items (length s.items - 1))) s
without_zero_start _ s = refl

pub operated_fits : {t : List ℕ} {p : ℕ} {m : Mode} {s : Lexer} (what : What) (to : ℕ) → Ordinary what → Held t p m s → p ≤ to → Fit t to to Ready (operated s what to)
unfolding operated
operated_fits {t} {p} {m} {s} what to is h near =
    let u = without_zero what s in
    let same : u.start ≡ s.start = without_zero_start what s in
    let old = without_zero_fits what h.fit in
    let before = h.before in
    let within = h.within in
    spend (at_spot _ (emit_plain u.start to what is old (omega arith) (omega arith) (omega arith)) (spot_behind_fits t what (top u) u.spot u.start (omega arith)))

pub round_opened_fits : {t : List ℕ} {s : Lexer} (b : Byte) → In t b → Fit t b.at b.at Ready s → Fit t b.end b.end Ready (round_opened s b)
unfolding round_opened
round_opened_fits {t} {s} b here h =
    let put = emit_plain b.at b.end LeftParen left_paren h (omega arith) (omega arith) (omega arith) in
    either (Fit t b.end b.end Ready) (is_item s.spot) _ _ (at_spot Pattern put tt) (at_spot Command (push Round put tt) tt)

closed_by_fits : {t : List ℕ} {s : Lexer} (o : Option Frame) (b : Byte) → In t b → IfSome o (FrameFits t) → Fit t b.at b.at Ready s → Fit t b.end b.end Ready (closed_by o s b)
closed_by_fits (Some (Substitution at spot)) b here is h = at_spot spot (pop (emit_plain b.at b.end SubstitutionEnd substitution_end h (omega arith) (omega arith) (omega arith))) is.1
closed_by_fits (Some Round) b here is h = at_spot Closed (pop (emit_plain b.at b.end RightParen right_paren h (omega arith) (omega arith) (omega arith))) tt
closed_by_fits _ b here is h = at_spot Command (emit_plain b.at b.end RightParen right_paren h (omega arith) (omega arith) (omega arith)) tt

pub round_closed_fits : {t : List ℕ} {s : Lexer} (b : Byte) → In t b → Fit t b.at b.at Ready s → Fit t b.end b.end Ready (round_closed s b)
unfolding round_closed
round_closed_fits {t} {s} b here h =
    let fs = without_cases s.frames in
    let all = without_fits t s.frames h.frames in
    either (Fit t b.end b.end Ready) (is_pattern s.spot) _ _
    (at_spot Command (emit_plain b.at b.end RightParen right_paren h (omega arith) (omega arith) (omega arith)) tt)
    (closed_by_fits (slice_get fs 0) b here (top_fits t fs all) (open_to s.spot fs h h.spot all))

-- words' begins
pub started_fits : {t : List ℕ} {e k : ℕ} {m : Mode} {s : Lexer} (w : Start) (at : ℕ) → Fit t e k m s → e ≤ at → k ≤ at + 1 → Fit t at (at + 1) m (started w at s)
started_fits {t} {e} {k} {m} {s} w at h near below =
    open_to (spot_in s.spot w) (cases_in s.spot w s.frames) (emit_start at w h near below) (spot_in_fits t s.spot w) (cases_fit t s.spot w s.frames h.frames)

with_bytes_fits : {t : List ℕ} {e k : ℕ} {m : Mode} {s : Lexer} (text : List ℕ) (to : ℕ) → Fit t e k m s → e + length text ≤ to → k ≤ to → Fit t to to m (with_bytes text e to s)
with_bytes_fits [] to h size below = widen to to h (omega arith) below
with_bytes_fits {t} {e} (b ∷ bs) to h size below = emit_plain e to (Bytes false (b ∷ bs)) (bytes_fit false (b ∷ bs)) h (omega arith) (omega arith) below

with_assignment_fits : {t : List ℕ} {m : Mode} {s : Lexer} (text : List ℕ) (to : ℕ) → Fit t s.start (s.start + 1) m s → 0 < length text → s.start + length text ≤ to → Fit t to to m (with_assignment text to s)
unfolding with_assignment
with_assignment_fits {t} {m} {s} text to h some size =
    let n = assignment_length text in
    let more : 1 ≤ n = omega arith in
    let most : n ≤ length text = omega arith in
    let middle = min (s.start + n) to in
    let front = emit_plain s.start middle (Bytes false (take n text)) (bytes_fit false (take n text)) h (omega arith) (omega arith) (omega arith) in
    with_bytes_fits (drop n text) to front (omega (arith, length-drop n text)) (omega arith)

-- unquoted bytes at a word's begin
pub record Heading (t : List ℕ) (p : ℕ) (m : Mode) (s : Lexer) : Type 0 where
  pub held : Held t p m s
  pub some : 0 < length s.text
  pub size : s.start + length s.text ≤ p

headed_fits : {t : List ℕ} {p : ℕ} {m : Mode} {s : Lexer} (w : Start) (to : ℕ) → Heading t p m s → p ≤ to → Fit t to to Ready (headed w to s)
unfolding headed
headed_fits {t} {p} {m} {s} w to h near =
    let before = h.held.before in
    let size = h.size in
    let some = h.some in
    let old = spend (started_fits w s.start h.held.fit (omega arith) (omega arith)) in
    either (Fit t to to Ready) (is_assigning w) _ _
    (with_assignment_fits s.text to old some (omega arith))
    (emit_plain s.start to (Bytes false s.text) (bytes_fit false s.text) old (omega arith) (omega arith) (omega arith))

numbered_fits : {t : List ℕ} {p : ℕ} {m : Mode} {s : Lexer} (o : Option ℕ) (to : ℕ) → Held t p m s → p ≤ to → Fit t to to Ready (numbered o to s)
numbered_fits {t} {p} {m} {s} (Some n) to h near =
    let before = h.before in
    let within = h.within in
    let zero : ZeroFits t (zero_in (Number n) s.start) = either (ZeroFits t) (n == 0) (Some s.start) None within tt in
    spend (emit s.start to to to (Number n) h.fit zero (omega arith, omega arith, (omega arith, omega arith)))
numbered_fits {t} {p} {m} {s} None to h near =
    let before = h.before in
    spend (emit s.start to to to (Number 9) (refuse Descriptor s.start h.fit h.within) tt (omega arith, omega arith, (omega arith, omega arith)))

pub worded_fits : {t : List ℕ} {p : ℕ} {m : Mode} {s : Lexer} (to : ℕ) → Heading t p m s → p ≤ to → Fit t to to Ready (worded s to)
unfolding worded
worded_fits {t} {p} {m} {s} to h near = emit_end to (headed_fits (whole_start (reserved s.text) s.text) to h near) (omega arith) (omega arith)

duplicated_fits : {t : List ℕ} {p : ℕ} {m : Mode} {s : Lexer} (at : ℕ) (closed : Bool) (to : ℕ) → at < length t → Heading t p m s → p ≤ to → Fit t to to Ready (duplicated at closed s to)
unfolding duplicated
duplicated_fits {t} {p} {m} {s} at closed to here h near =
    let before = h.held.before in
    either (Fit t to to Ready) (is_number s.text) _ _
    (at_spot (behind_target closed) (numbered_fits (descriptor 1 s.text) to h.held near) (behind_target_fits t closed))
    (either (Fit t to to Ready) (is_dash s.text) _ _
    (at_spot (behind_target closed) (spend (refuse Redirection at (widen to to h.held.fit (omega arith) (omega arith)) here)) (behind_target_fits t closed))
    (worded_fits to h near))

told_at_rest : {t : List ℕ} {p : ℕ} {m : Mode} {s : Lexer} (next to : ℕ) → Heading t p m s → p ≤ to → Fit t to to Ready (cond (is_number s.text && ((next == 60) || (next == 62))) (numbered (descriptor 0 s.text) to s) (worded s to))
told_at_rest {t} {p} {m} {s} next to h near = either (Fit t to to Ready) _ _ _ (numbered_fits (descriptor 0 s.text) to h.held near) (worded_fits to h near)

told_at_fits : {t : List ℕ} {p : ℕ} {m : Mode} {s : Lexer} (spot : Spot) (next to : ℕ) → SpotFits t spot → Heading t p m s → p ≤ to → Fit t to to Ready (told_at spot s next to)
told_at_fits (Duplicate from closed) next to here h near = duplicated_fits from closed to here h near
told_at_fits _ next to here h near = told_at_rest next to h near

pub told_fits : {t : List ℕ} {p : ℕ} {m : Mode} {s : Lexer} (next to : ℕ) → Heading t p m s → p ≤ to → Fit t to to Ready (told s next to)
unfolding told
told_fits {t} {p} {m} {s} next to h near = told_at_fits s.spot next to h.held.fit.spot h near

pub fronted_fits : {t : List ℕ} {p : ℕ} {m : Mode} {s : Lexer} (to : ℕ) → Heading t p m s → p ≤ to → Fit t to to Ready (fronted s to)
unfolding fronted
fronted_fits {t} {p} {m} {s} to h near = push InWord (headed_fits (front_start s.text) to h near) tt

pub entered_fits : {t : List ℕ} {e k : ℕ} {m : Mode} {s : Lexer} (at : ℕ) → Fit t e k m s → e ≤ at → k ≤ at + 1 → Fit t at (at + 1) m (entered s at)
unfolding entered
entered_fits at h near below = push InWord (started_fits Plain at h near below) tt

-- values
pub valued_fits : {t : List ℕ} {p : ℕ} {m : Mode} {s : Lexer} (form : List ℕ) (to : ℕ) → Held t p m s → p ≤ to → Fit t to to Ready (valued s form to)
unfolding valued
valued_fits {t} {p} {m} {s} form to h near =
    let before = h.before in
    spend (emit_plain s.start to _ (value_fits (is_quoted (top s)) s.text form) h.fit (omega arith) (omega arith) (omega arith))

in_argument_fits : {t : List ℕ} {e k : ℕ} {m : Mode} {s : Lexer} (quoted : Bool) → Fit t e k m s → Opens t s.start → Fit t e k Ready (in_argument quoted s)
in_argument_fits {t} {e} {k} {m} {s} quoted h is = push (Argument s.start quoted) (spend h) is

with_start_fits : {t : List ℕ} {p : ℕ} {m : Mode} {s : Lexer} (form : List ℕ) (to : ℕ) → Held t p m s → p ≤ to → Fit t to to Ready (with_start s form to)
with_start_fits {t} {p} {m} {s} form to h near =
    let before = h.before in
    spend (emit_plain s.start to _ (argument_start (is_quoted (top s)) s.text form) h.fit (omega arith) (omega arith) (omega arith))

pub with_word_fits : {t : List ℕ} {p : ℕ} {m : Mode} {s : Lexer} (form : List ℕ) (to : ℕ) → Held t p m s → Opens t s.start → p ≤ to → Fit t to to Ready (with_word s form to)
unfolding with_word
with_word_fits {t} {p} {m} {s} form to h is near = in_argument_fits (is_quoting (top s)) (with_start_fits form to h near) is

pub with_pattern_fits : {t : List ℕ} {p : ℕ} {m : Mode} {s : Lexer} (form : List ℕ) (to : ℕ) → Held t p m s → Opens t s.start → p ≤ to → Fit t to to Ready (with_pattern s form to)
unfolding with_pattern
with_pattern_fits {t} {p} {m} {s} form to h is near = in_argument_fits false (with_start_fits form to h near) is

pub spoiled_fits : {t : List ℕ} {p : ℕ} {m : Mode} {s : Lexer} (to : ℕ) → Held t p m s → Opens t s.start → p ≤ to → Fit t to to Ready (spoiled s to)
unfolding spoiled
spoiled_fits {t} {p} {m} {s} to h is near =
    let before = h.before in
    in_argument_fits (is_quoting (top s)) (emit_plain s.start to BadValue bad_value h.fit (omega arith) (omega arith) (omega arith)) is

pub positional_fits : {t : List ℕ} {p : ℕ} {m : Mode} {s : Lexer} (to : ℕ) → Held t p m s → Opens t s.start → p ≤ to → Fit t to to Ready (positional s)
unfolding positional
positional_fits {t} {p} {m} {s} to h is near =
    let before = h.before in
    in_argument_fits (is_quoting (top s)) (refuse Positional s.start (widen to to h.fit (omega arith) (omega arith)) h.within) is

pub substituted_fits : {t : List ℕ} {p : ℕ} {m : Mode} {s : Lexer} (to : ℕ) → Held t p m s → Opens t s.start → p ≤ to → Fit t to to Opened (substituted s to)
unfolding substituted
substituted_fits {t} {p} {m} {s} to h is near =
    let before = h.before in
    let put = emit_plain s.start to _ (substitution_start (is_quoted (top s))) h.fit (omega arith) (omega arith) (omega arith) in
    at_spot Command (turn Opened (push (Substitution s.start s.spot) put (is, h.fit.spot))) tt
