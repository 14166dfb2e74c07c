-- Reading a byte keeps the state as it has to be.
use Rattle.std.proofs.Common.{◌≡◌, ℕ, ◌+◌, ◌<◌, ◌≤◌, ◌==◌, ◌&&◌, ◌||◌, Bool, true, false, List, [], ◌∷◌, ◌++◌, length, length-append, refl, sym, ap, subst, ◌∙◌, arith, inl, inr}
use Rattle.std.specs.Prelude.{Option, None, Some, IfSome, slice_index}
use Rattle.std.proofs.lemmas.Bool.{eqb-true}
use Rattle.em_base.specs.Blanks.{is_blank}
use Rattle.em_base.specs.declared.construct.Construct.{Construct}
use Rattle.em_base.specs.declared.construct.Construct.TheVariants.{Arithmetic, Positional}
use Rattle.em_lexeme.specs.declared.lexeme.What.{What}
use Rattle.em_lexeme.specs.declared.lexeme.What.TheVariants.{Newline, ArgumentEnd}
use Rattle.em_lexeme.specs.declared.frame.Frame.{Frame}
use Rattle.em_lexeme.specs.declared.frame.Frame.TheVariants.{Single, Double}
use Rattle.em_lexeme.specs.declared.spot.Spot.TheVariants.{Operand}
use Rattle.em_lexeme.specs.Bytes.{acts, begins_name, is_in_name, begins_operator, ends_word, is_special, takes_word}
use Rattle.em_lexeme.specs.Frames.{is_list, is_quoting, is_word, is_quoted, is_single, is_double, is_ordinary}
use Rattle.em_lexeme.specs.Operators.{pair, refused_pair, single}
use Rattle.em_lex.specs.declared.state.Byte.{Byte}
use Rattle.em_lex.specs.declared.state.Lexer.{Lexer}
use Rattle.em_lex.specs.declared.state.Mode.{Mode}
use Rattle.em_lex.specs.declared.state.Mode.TheVariants.{Ready, Comment, Operating, Head, Gathering, Dollar, Naming, Opened, Brace, Status, Length, Parameter, Colon, Trim}
use Rattle.em_lex.specs.Steps.{top, pushed, popped, begun, turned, gathered}
use Rattle.em_lex.specs.Values.{substituted}
use Rattle.em_lex.specs.Modes.{broken, between, special, left, listed, ready, pieced, settled_length, settled_in, settled, refused_or, paired_or, operating, heading, is_none_yet, pieced_before, gathering, dollar, naming, behind_opened, spoiled_at, brace, status, in_length, parameter, colon, trim, comment, by_mode}
use Rattle.em_lex.specs.Standing.{is_quote, is_bracket, Passed, Opens}
use Rattle.em_lex.proofs.Fits.{decide, either, Fit, laid_after, FrameFits, Ordinary, emit_end, emit_plain, widen, refuse, at_spot, push, begin, turn, gather, spend, pop}
use Rattle.em_lex.proofs.Puts.{In, Held, Heading, newline_fits, bytes_fit, argument_end, pair_fits, single_fits, spot_behind_fits, operated_fits, round_opened_fits, round_closed_fits, told_fits, fronted_fits, entered_fits, valued_fits, with_word_fits, with_pattern_fits, spoiled_fits, positional_fits, substituted_fits}
use Rattle.em_lex.proofs.Backquoted.{Aligned}
use Rattle.em_lex.proofs.Embedded.{InBackquotes}

-- the modes behind `${`
abbrev pub is_braced : Mode → Bool
is_braced Brace = true
is_braced Status = true
is_braced Length = true
is_braced Parameter = true
is_braced Colon = true
is_braced (Trim a) = true
is_braced _ = false

-- a state behind p bytes of a text, where no backslash stands right before
pub data Plain (t : List ℕ) (p : ℕ) (s : Lexer) : Type 0 where
  at_rest : Fit t p p Ready s → Plain t p s
  in_comment : Fit t p p Comment s → Plain t p s
  in_opened : Fit t p p Opened s → Opens t s.start → Plain t p s
  in_operator : (a : ℕ) → Held t p (Operating a) s → Plain t p s
  in_head : Heading t p Head s → Plain t p s
  in_piece : Held t p Gathering s → Plain t p s
  in_dollar : Held t p Dollar s → slice_index t s.start ≡ 36 → Passed t (s.start + 1) p → Plain t p s
  in_name : Held t p Naming s → Plain t p s
  in_brace : (m : Mode) → is_braced m ≡ true → Held t p m s → Opens t s.start → Plain t p s

pub data Sound (t : List ℕ) (p : ℕ) (s : Lexer) : Type 0 where
  plain : Plain t p s → Sound t p s
  quoted : InBackquotes t p s → Sound t p s

-- what is begun stays begun
begin_held : {t : List ℕ} {e k : ℕ} {m : Mode} {s : Lexer} (mode : Mode) (b : Byte) → In t b → Fit t e k m s → e ≤ b.at → k ≤ b.at + 1 → Held t b.end mode (begun mode b.at s)
begin_held mode b here h near below = record { fit = widen b.at (b.at + 1) (begin mode b.at h) near below; before = (let end = here.end in omega arith); within = here.within }

pub gather_held : {t : List ℕ} {p : ℕ} {m : Mode} {s : Lexer} (b : ℕ) → Held t p m s → Held t p m (gathered s b)
gather_held b h = record { fit = gather b h.fit; before = h.before; within = h.within }

turn_held : {t : List ℕ} {p : ℕ} {m : Mode} {s : Lexer} (mode : Mode) → Held t p m s → Held t p mode (turned mode s)
turn_held mode h = record { fit = turn mode h.fit; before = h.before; within = h.within }

push_held : {t : List ℕ} {p : ℕ} {m : Mode} {s : Lexer} (f : Frame) → FrameFits t f → Held t p m s → Held t p m (pushed f s)
push_held f is h = record { fit = push f h.fit is; before = h.before; within = h.within }

pub later_held : {t : List ℕ} {p : ℕ} {m : Mode} {s : Lexer} (p' : ℕ) → Held t p m s → p ≤ p' → Held t p' m s
later_held p' h near = record { fit = h.fit; before = (let before = h.before in omega arith); within = h.within }

pub widen_held : {t : List ℕ} {p : ℕ} {m : Mode} {s : Lexer} (to : ℕ) → Held t p m s → p ≤ to → Fit t to to m s
widen_held to h near = let before = h.before in widen to to h.fit (omega arith) (omega arith)

-- lists
broken_fits : {t : List ℕ} {s : Lexer} (b : Byte) → In t b → Fit t b.at b.at Ready s → Fit t b.end b.end Ready (broken s b)
broken_fits {t} {s} b here h =
    let end = here.end in
    at_spot _ (emit_plain b.at b.end Newline newline_fits h (omega arith) (omega arith) (omega arith)) (spot_behind_fits t Newline (top s) s.spot b.at here.within)

between_sound : {t : List ℕ} {s : Lexer} (b : Byte) → In t b → Fit t b.at b.at Ready s → Plain t b.end (between s b)
unfolding between
between_sound {t} {s} b here h =
    let P = Plain t b.end in
    let end = here.end in
    let wide = widen b.end b.end h (omega arith) (omega arith) in
    let head = gather_held b.code (begin_held Head b here h (omega arith) (omega arith)) in
    either P (is_blank b.code) _ _ (at_rest wide)
    (either P (b.code == 10) _ _ (at_rest (broken_fits b here h))
    (either P (b.code == 35) _ _ (in_comment (turn Comment wide))
    (either P (b.code == 40) _ _ (at_rest (round_opened_fits b here h))
    (either P (b.code == 41) _ _ (at_rest (round_closed_fits b here h))
    (either P (begins_operator b.code) _ _ (in_operator b.code (begin_held (Operating b.code) b here h (omega arith) (omega arith)))
    (in_head (record { held = head; some = omega arith; size = omega arith })))))))

quote_opens : (t : List ℕ) (at c : ℕ) → at < length t → slice_index t at ≡ c → is_quote c ≡ true → Opens t at
quote_opens t at c within same is = record { within = within; mark = inl (ap is_quote same ∙ is) }

-- what begins or ends within a word
special_sound : {t : List ℕ} {e k : ℕ} {s : Lexer} (b : Byte) → In t b → slice_index t b.at ≡ b.code → Fit t e k Ready s → e ≤ b.at → k ≤ b.at + 1 → Sound t b.end (special s b)
unfolding special
special_sound {t} {e} {k} {s} b here code h near below =
    let P = Sound t b.end in
    let end = here.end in
    let within = here.within in
    let shut : Sound t b.end (popped s) = plain (at_rest (widen b.end b.end (pop h) (omega arith) (omega arith))) in
    let piece = begin_held Gathering b here h near below in
    decide P (b.code == 39) _ _
    (λ is. either P (is_single (top s)) _ _ shut (plain (in_piece (push_held (Single b.at) (quote_opens t b.at 39 within (code ∙ eqb-true b.code 39 is) refl) piece))))
    (λ _. decide P (b.code == 34) _ _
    (λ is. either P (is_double (top s)) _ _ shut (plain (in_piece (push_held (Double b.at) (quote_opens t b.at 34 within (code ∙ eqb-true b.code 34 is) refl) piece))))
    (λ _. decide P (b.code == 36) _ _
    (λ is. plain (in_dollar (begin_held Dollar b here h near below) (code ∙ eqb-true b.code 36 is) (λ n from to. absurd (omega arith))))
    (λ _. decide P (b.code == 96) _ _
    (λ is. quoted (record {
      at = b.at;
      quoting = is_quoting (top s);
      outer = s.frames;
      is = refl;
      opens = quote_opens t b.at 96 within (code ∙ eqb-true b.code 96 is) refl;
      frames = h.frames;
      spot = h.spot;
      zero = h.zero;
      fault = h.fault;
      mode = refl;
      items = laid_after s.items 0 0 e b.at k (b.at + 1) near below h.items;
      edge = b.end;
      slash = inl (h.plain, refl);
      text = subst (λ ps. Aligned t (b.at + 1) [] ps b.end) (sym h.places) (omega arith, λ n from to. absurd (omega arith));
    }))
    (λ _. plain (at_rest (pop (emit_plain b.at b.end ArgumentEnd argument_end h near (omega arith) (omega arith))))))))

pub left_fits : {t : List ℕ} {e k : ℕ} {m : Mode} {s : Lexer} (at : ℕ) → Fit t e k m s → e ≤ at → k ≤ at → Fit t at at Ready (left s at)
left_fits at h near below = pop (emit_end at h near below)

listed_sound : {t : List ℕ} {s : Lexer} (b : Byte) → In t b → slice_index t b.at ≡ b.code → Fit t b.at b.at Ready s → Sound t b.end (listed s b)
listed_sound {t} {s} b here code h =
    either (Sound t b.end) (acts b.code) _ _ (special_sound b here code (entered_fits b.at h (omega arith) (omega arith)) (omega arith) (omega arith)) (plain (between_sound b here h))

ready_sound : {t : List ℕ} {s : Lexer} (b : Byte) → In t b → slice_index t b.at ≡ b.code → Fit t b.at b.at Ready s → Sound t b.end (ready s b)
unfolding ready
ready_sound {t} {s} b here code h =
    let P = Sound t b.end in
    either P (is_list (top s)) _ _ (listed_sound b here code h)
    (either P (is_ordinary (top s) b.code) _ _ (plain (in_piece (gather_held b.code (begin_held Gathering b here h (omega arith) (omega arith)))))
    (either P (is_word (top s) && ends_word b.code) _ _ (plain (between_sound b here (left_fits b.at h (omega arith) (omega arith))))
    (special_sound b here code h (omega arith) (omega arith))))

-- bytes that stand for themselves
pieced_fits : {t : List ℕ} {p : ℕ} {m : Mode} {s : Lexer} (text : List ℕ) (to : ℕ) → Held t p m s → p ≤ to → Fit t to to Ready (pieced s text to)
pieced_fits {t} {p} {m} {s} text to h near =
    let before = h.before in
    spend (emit_plain s.start to _ (bytes_fit (is_quoted (top s)) text) h.fit (omega arith) (omega arith) (omega arith))

pieced_before_fits : {t : List ℕ} {s : Lexer} (b : Byte) → Held t b.at Gathering s → Fit t b.at b.at Ready (pieced_before s b)
pieced_before_fits {t} {s} b h = either (Fit t b.at b.at Ready) (is_none_yet s b.code) _ _ (turn Ready (widen_held b.at h (omega arith))) (pieced_fits s.text b.at h (omega arith))

gathering_sound : {t : List ℕ} {s : Lexer} (b : Byte) → In t b → slice_index t b.at ≡ b.code → Held t b.at Gathering s → Sound t b.end (gathering s b)
unfolding gathering
gathering_sound {t} {s} b here code h =
    let end = here.end in
    either (Sound t b.end) (is_ordinary (top s) b.code) _ _ (plain (in_piece (gather_held b.code (later_held b.end h (omega arith)))))
    (ready_sound b here code (pieced_before_fits b h))

-- behind `$`
dollar_sound : {t : List ℕ} {s : Lexer} (b : Byte) → In t b → slice_index t b.at ≡ b.code → Held t b.at Dollar s → slice_index t s.start ≡ 36 → Passed t (s.start + 1) b.at → Sound t b.end (dollar s b)
unfolding dollar substituted
dollar_sound {t} {s} b here code h is_dollar passed =
    let P = Sound t b.end in
    let end = here.end in
    let further = h.before in
    let more = later_held b.end h (omega arith) in
    let opens : is_bracket (slice_index t b.at) ≡ true → Opens t s.start = λ bracket. record {
      within = h.within;
      mark = inr (record { dollar = is_dollar; behind = b.at; further = further; within = here.within; bracket = bracket; passed = passed });
    } in
    decide P (b.code == 40) _ _
    (λ is. let opener = opens (ap is_bracket (code ∙ eqb-true b.code 40 is)) in plain (in_opened (substituted_fits b.end more opener (omega arith)) opener))
    (λ _. decide P (b.code == 123) _ _
    (λ is. plain (in_brace Brace refl (turn_held Brace more) (opens (ap is_bracket (code ∙ eqb-true b.code 123 is)))))
    (λ _. either P (begins_name b.code) _ _ (plain (in_name (gather_held b.code (turn_held Naming more))))
    (either P (b.code == 63) _ _ (plain (at_rest (valued_fits (63 ∷ []) b.end more (omega arith))))
    (either P (is_special b.code) _ _ (plain (at_rest (spend (refuse Positional s.start (widen_held b.end h (omega arith)) h.within))))
    (gathering_sound b here code (gather_held 36 (turn_held Gathering h)))))))

naming_sound : {t : List ℕ} {s : Lexer} (b : Byte) → In t b → slice_index t b.at ≡ b.code → Held t b.at Naming s → Sound t b.end (naming s b)
unfolding naming
naming_sound {t} {s} b here code h =
    let end = here.end in
    either (Sound t b.end) (is_in_name b.code) _ _ (plain (in_name (gather_held b.code (later_held b.end h (omega arith)))))
    (ready_sound b here code (valued_fits [] b.at h (omega arith)))

behind_opened_sound : {t : List ℕ} {s : Lexer} (b : Byte) → In t b → slice_index t b.at ≡ b.code → Fit t b.at b.at Opened s → Opens t s.start → Sound t b.end (behind_opened s b)
unfolding behind_opened
behind_opened_sound {t} {s} b here code h opener =
    ready_sound b here code (turn Ready (either (Fit t b.at b.at Opened) (b.code == 40) _ _ (refuse Arithmetic s.start h opener.within) h))

-- behind `${`
spoiled_at_sound : {t : List ℕ} {m : Mode} {s : Lexer} (b : Byte) → In t b → slice_index t b.at ≡ b.code → Held t b.at m s → Opens t s.start → Sound t b.end (spoiled_at s b)
spoiled_at_sound b here code h opener = ready_sound b here code (spoiled_fits b.at h opener (omega arith))

brace_sound : {t : List ℕ} {s : Lexer} (b : Byte) → In t b → slice_index t b.at ≡ b.code → Held t b.at Brace s → Opens t s.start → Sound t b.end (brace s b)
unfolding brace
brace_sound {t} {s} b here code h opener =
    let P = Sound t b.end in
    let end = here.end in
    let more = later_held b.end h (omega arith) in
    either P (begins_name b.code) _ _ (plain (in_brace Parameter refl (gather_held b.code (turn_held Parameter more)) opener))
    (either P (b.code == 35) _ _ (plain (in_brace Length refl (turn_held Length more) opener))
    (either P (b.code == 63) _ _ (plain (in_brace Status refl (turn_held Status more) opener))
    (either P (is_special b.code) _ _ (plain (at_rest (positional_fits b.end more opener (omega arith))))
    (spoiled_at_sound b here code h opener))))

status_sound : {t : List ℕ} {s : Lexer} (b : Byte) → In t b → slice_index t b.at ≡ b.code → Held t b.at Status s → Opens t s.start → Sound t b.end (status s b)
unfolding status
status_sound {t} {s} b here code h opener =
    let end = here.end in
    either (Sound t b.end) (b.code == 125) _ _ (plain (at_rest (valued_fits (63 ∷ []) b.end (later_held b.end h (omega arith)) (omega arith)))) (spoiled_at_sound b here code h opener)

length_sound : {t : List ℕ} {s : Lexer} (b : Byte) → In t b → slice_index t b.at ≡ b.code → Held t b.at Length s → Opens t s.start → Sound t b.end (in_length s b)
unfolding in_length
length_sound {t} {s} b here code h opener =
    let P = Sound t b.end in
    let end = here.end in
    let more = later_held b.end h (omega arith) in
    let named = plain (in_brace Length refl (gather_held b.code more) opener) in
    either P (length s.text == 0) _ _
    (either P (begins_name b.code) _ _ named (ready_sound b here code (positional_fits b.at h opener (omega arith))))
    (either P (is_in_name b.code) _ _ named
    (either P (b.code == 125) _ _ (plain (at_rest (valued_fits (35 ∷ []) b.end more (omega arith)))) (spoiled_at_sound b here code h opener)))

parameter_sound : {t : List ℕ} {s : Lexer} (b : Byte) → In t b → slice_index t b.at ≡ b.code → Held t b.at Parameter s → Opens t s.start → Sound t b.end (parameter s b)
unfolding parameter
parameter_sound {t} {s} b here code h opener =
    let P = Sound t b.end in
    let end = here.end in
    let more = later_held b.end h (omega arith) in
    either P (is_in_name b.code) _ _ (plain (in_brace Parameter refl (gather_held b.code more) opener))
    (either P (b.code == 125) _ _ (plain (at_rest (valued_fits [] b.end more (omega arith))))
    (either P (takes_word b.code) _ _ (plain (at_rest (with_word_fits (b.code ∷ []) b.end more opener (omega arith))))
    (either P (b.code == 58) _ _ (plain (in_brace Colon refl (turn_held Colon more) opener))
    (either P ((b.code == 37) || (b.code == 35)) _ _ (plain (in_brace (Trim b.code) refl (turn_held (Trim b.code) more) opener))
    (spoiled_at_sound b here code h opener)))))

colon_sound : {t : List ℕ} {s : Lexer} (b : Byte) → In t b → slice_index t b.at ≡ b.code → Held t b.at Colon s → Opens t s.start → Sound t b.end (colon s b)
unfolding colon
colon_sound {t} {s} b here code h opener =
    let end = here.end in
    either (Sound t b.end) (takes_word b.code) _ _ (plain (at_rest (with_word_fits (58 ∷ b.code ∷ []) b.end (later_held b.end h (omega arith)) opener (omega arith)))) (spoiled_at_sound b here code h opener)

trim_sound : {t : List ℕ} {s : Lexer} (a : ℕ) (b : Byte) → In t b → slice_index t b.at ≡ b.code → Held t b.at (Trim a) s → Opens t s.start → Sound t b.end (trim a s b)
unfolding trim
trim_sound {t} {s} a b here code h opener =
    let end = here.end in
    either (Sound t b.end) (b.code == a) _ _ (plain (at_rest (with_pattern_fits (a ∷ a ∷ []) b.end (later_held b.end h (omega arith)) opener (omega arith))))
    (ready_sound b here code (with_pattern_fits (a ∷ []) b.at h opener (omega arith)))

-- outside of words
refused_or_sound : {t : List ℕ} {s : Lexer} (o : Option Construct) (a : ℕ) (b : Byte) → In t b → slice_index t b.at ≡ b.code → Held t b.at (Operating a) s → Sound t b.end (refused_or o a s b)
refused_or_sound {t} {s} (Some c) a b here code h =
    let end = here.end in
    let before = h.before in
    let put = emit_plain s.start b.end (single a) (single_fits a) (refuse c s.start h.fit h.within) (omega arith) (omega arith) (omega arith) in
    plain (at_rest (at_spot Operand (spend put) tt))
refused_or_sound None a b here code h = ready_sound b here code (operated_fits (single a) b.at (single_fits a) h (omega arith))

paired_or_sound : {t : List ℕ} {s : Lexer} (o : Option What) (a : ℕ) (b : Byte) → IfSome o Ordinary → In t b → slice_index t b.at ≡ b.code → Held t b.at (Operating a) s → Sound t b.end (paired_or o a s b)
paired_or_sound (Some what) a b is here code h = let end = here.end in plain (at_rest (operated_fits what b.end is h (omega arith)))
paired_or_sound None a b is here code h = refused_or_sound (refused_pair a b.code) a b here code h

operating_sound : {t : List ℕ} {s : Lexer} (a : ℕ) (b : Byte) → In t b → slice_index t b.at ≡ b.code → Held t b.at (Operating a) s → Sound t b.end (operating a s b)
unfolding operating
operating_sound a b here code h = paired_or_sound (pair a b.code) a b (pair_fits a b.code) here code h

heading_sound : {t : List ℕ} {s : Lexer} (b : Byte) → In t b → slice_index t b.at ≡ b.code → Heading t b.at Head s → Sound t b.end (heading s b)
unfolding heading
heading_sound {t} {s} b here code h =
    let P = Sound t b.end in
    let end = here.end in
    let size = h.size in
    let one : length (s.text ++ b.code ∷ []) ≡ length s.text + 1 = omega (arith, length-append s.text (b.code ∷ [])) in
    either P (ends_word b.code) _ _ (plain (between_sound b here (told_fits b.code b.at h (omega arith))))
    (either P (acts b.code) _ _ (special_sound b here code (fronted_fits b.at h (omega arith)) (omega arith) (omega arith))
    (plain (in_head (record { held = gather_held b.code (later_held b.end h.held (omega arith)); some = omega arith; size = omega arith }))))

comment_sound : {t : List ℕ} {s : Lexer} (b : Byte) → In t b → slice_index t b.at ≡ b.code → Fit t b.at b.at Comment s → Sound t b.end (comment s b)
unfolding comment
comment_sound {t} {s} b here code h =
    let end = here.end in
    either (Sound t b.end) (b.code == 10) _ _ (ready_sound b here code (turn Ready h)) (plain (in_comment (widen b.end b.end h (omega arith) (omega arith))))

braced_sound : {t : List ℕ} {s : Lexer} (m : Mode) (b : Byte) → is_braced m ≡ true → In t b → slice_index t b.at ≡ b.code → Held t b.at m s → Opens t s.start → Sound t b.end (by_mode m s b)
braced_sound Brace b is here code h opener = brace_sound b here code h opener
braced_sound Status b is here code h opener = status_sound b here code h opener
braced_sound Length b is here code h opener = length_sound b here code h opener
braced_sound Parameter b is here code h opener = parameter_sound b here code h opener
braced_sound Colon b is here code h opener = colon_sound b here code h opener
braced_sound (Trim a) b is here code h opener = trim_sound a b here code h opener
braced_sound _ b is here code h opener = absurd (let bad : false ≡ true = is in cc)

in_mode : (t : List ℕ) (s : Lexer) (b : Byte) (m : Mode) → s.mode ≡ m → Sound t b.end (by_mode m s b) → Sound t b.end (by_mode s.mode s b)
in_mode t s b m same h = subst (λ n. Sound t b.end (by_mode n s b)) (sym same) h

pub by_mode_sound : {t : List ℕ} {s : Lexer} (b : Byte) → In t b → slice_index t b.at ≡ b.code → Plain t b.at s → Sound t b.end (by_mode s.mode s b)
by_mode_sound {t} {s} b here code (at_rest h) = in_mode t s b Ready h.mode (ready_sound b here code h)
by_mode_sound {t} {s} b here code (in_comment h) = in_mode t s b Comment h.mode (comment_sound b here code h)
by_mode_sound {t} {s} b here code (in_opened h opener) = in_mode t s b Opened h.mode (behind_opened_sound b here code h opener)
by_mode_sound {t} {s} b here code (in_operator a h) = in_mode t s b (Operating a) h.fit.mode (operating_sound a b here code h)
by_mode_sound {t} {s} b here code (in_head h) = in_mode t s b Head h.held.fit.mode (heading_sound b here code h)
by_mode_sound {t} {s} b here code (in_piece h) = in_mode t s b Gathering h.fit.mode (gathering_sound b here code h)
by_mode_sound {t} {s} b here code (in_dollar h is passed) = in_mode t s b Dollar h.fit.mode (dollar_sound b here code h is passed)
by_mode_sound {t} {s} b here code (in_name h) = in_mode t s b Naming h.fit.mode (naming_sound b here code h)
by_mode_sound {t} {s} b here code (in_brace m is h opener) = in_mode t s b m h.fit.mode (braced_sound m b is here code h opener)

-- what is begun is ended
settled_length_fits : {t : List ℕ} {p : ℕ} {s : Lexer} (to : ℕ) → Held t p Length s → Opens t s.start → p ≤ to → Fit t to to Ready (settled_length s to)
settled_length_fits {t} {p} {s} to h opener near = either (Fit t to to Ready) (length s.text == 0) _ _ (positional_fits to h opener near) (spoiled_fits to h opener near)

braced_settled : {t : List ℕ} {p : ℕ} {s : Lexer} (m : Mode) (to : ℕ) → is_braced m ≡ true → Held t p m s → Opens t s.start → p ≤ to → Fit t to to Ready (settled_in m s to)
braced_settled Brace to is h opener near = spoiled_fits to h opener near
braced_settled Status to is h opener near = spoiled_fits to h opener near
braced_settled Length to is h opener near = settled_length_fits to h opener near
braced_settled Parameter to is h opener near = spoiled_fits to h opener near
braced_settled Colon to is h opener near = spoiled_fits to h opener near
braced_settled (Trim a) to is h opener near = with_pattern_fits (a ∷ []) to h opener near
braced_settled _ to is h opener near = absurd (let bad : false ≡ true = is in cc)

settled_mode : (t : List ℕ) (s : Lexer) (to : ℕ) (m : Mode) → s.mode ≡ m → Fit t to to Ready (settled_in m s to) → Fit t to to Ready (settled s to)
unfolding settled
settled_mode t s to m same h = subst (λ n. Fit t to to Ready (settled_in n s to)) (sym same) h

pub settled_fits : {t : List ℕ} {p : ℕ} {s : Lexer} (to : ℕ) → Plain t p s → p ≤ to → Fit t to to Ready (settled s to)
settled_fits {t} {p} {s} to (at_rest h) near = settled_mode t s to Ready h.mode (widen to to h near near)
settled_fits {t} {p} {s} to (in_comment h) near = settled_mode t s to Comment h.mode (turn Ready (widen to to h near near))
settled_fits {t} {p} {s} to (in_opened h opener) near = settled_mode t s to Opened h.mode (turn Ready (widen to to h near near))
settled_fits {t} {p} {s} to (in_operator a h) near = settled_mode t s to (Operating a) h.fit.mode (operated_fits (single a) to (single_fits a) h near)
settled_fits {t} {p} {s} to (in_head h) near = settled_mode t s to Head h.held.fit.mode (told_fits 10 to h near)
settled_fits {t} {p} {s} to (in_piece h) near = settled_mode t s to Gathering h.fit.mode (pieced_fits s.text to h near)
settled_fits {t} {p} {s} to (in_dollar h is passed) near = settled_mode t s to Dollar h.fit.mode (pieced_fits (36 ∷ []) to h near)
settled_fits {t} {p} {s} to (in_name h) near = settled_mode t s to Naming h.fit.mode (valued_fits [] to h near)
settled_fits {t} {p} {s} to (in_brace m is h opener) near = settled_mode t s to m h.fit.mode (braced_settled m to is h opener near)
