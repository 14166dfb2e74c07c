-- Reading a text keeps the state as it has to be.
use Rattle.std.proofs.Common.{◌≡◌, ℕ, suc, ◌+◌, ◌-◌, ◌<◌, ◌≤◌, ◌==◌, ◌&&◌, not, Bool, true, false, List, [], ◌∷◌, slice_get, length, refl, sym, ap, subst, ◌∙◌, arith, inl, inr}
use Rattle.std.specs.Prelude.{Some, slice_index}
use Rattle.std.specs.List.{AllByRecursion}
use Rattle.std.proofs.lemmas.Bool.{eqb-true}
use Rattle.em_lexeme.specs.declared.lexeme.Lexed.{Lexed}
use Rattle.em_lexeme.specs.declared.frame.Frame.{Frame}
use Rattle.em_lexeme.specs.declared.frame.Frame.TheVariants.{Backquotes}
use Rattle.em_lexeme.specs.Frames.{is_list, is_quoting, is_escaped_in, is_backquotes}
use Rattle.em_lex.specs.declared.state.Byte.{Byte}
use Rattle.em_lex.specs.declared.state.Lexer.{Lexer}
use Rattle.em_lex.specs.declared.state.Mode.{Mode}
use Rattle.em_lex.specs.declared.state.Mode.TheVariants.{Ready, Head, Gathering}
use Rattle.em_lex.specs.Steps.{top, begun}
use Rattle.em_lex.specs.Modes.{settled}
use Rattle.em_lex.specs.Quotes.{is_head, is_gathering, piece_begun, kept_escape, escaped_in, escaped, slashed, heeds_backslash, step}
use Rattle.em_lex.specs.Lexing.{closes_backquotes, next, byte_at, run, at_first}
use Rattle.em_lex.specs.Standing.{is_passed, Passed}
use Rattle.em_lex.proofs.Fits.{decide, either, Fit, FrameFits, emit_plain, widen, begin}
use Rattle.em_lex.proofs.Puts.{In, Held, Heading, bytes_fit, fronted_fits, entered_fits}
use Rattle.em_lex.proofs.Backquoted.{Aligned, passed_join, passed_one}
use Rattle.em_lex.proofs.Embedded.{InBackquotes, Inner, raw_fits, embedded_fits}
use Rattle.em_lex.proofs.Stepping.{Plain, Sound, is_braced, later_held, gather_held, by_mode_sound, settled_fits}
use Rattle.em_lex.proofs.Stepping.Plain.{at_rest, in_comment, in_opened, in_operator, in_head, in_piece, in_dollar, in_name, in_brace}
use Rattle.em_lex.proofs.Stepping.Sound.{plain, quoted}

and_left : (x y : Bool) → (x && y) ≡ true → x ≡ true
and_left true y h = refl
and_left false y h = h

and_right : (x y : Bool) → (x && y) ≡ true → y ≡ true
and_right true y h = h
and_right false y h = absurd (let bad : false ≡ true = h in cc)

pub clash : {A : Type 0} (b : Bool) → b ≡ true → b ≡ false → A
clash b so isnt = absurd (let bad : true ≡ false = sym so ∙ isnt in cc)

pub later : {t : List ℕ} {p : ℕ} {s : Lexer} (p' : ℕ) → Plain t p s → p ≤ p' → Passed t p p' → Plain t p' s
later p' (at_rest h) near more = at_rest (widen p' p' h near near)
later p' (in_comment h) near more = in_comment (widen p' p' h near near)
later p' (in_opened h opener) near more = in_opened (widen p' p' h near near) opener
later p' (in_operator a h) near more = in_operator a (later_held p' h near)
later p' (in_head h) near more = let size = h.size in in_head (record { held = later_held p' h.held near; some = h.some; size = omega arith })
later p' (in_piece h) near more = in_piece (later_held p' h near)
later {t} {p} {s} p' (in_dollar h is passed) near more = in_dollar (later_held p' h near) is (passed_join t (s.start + 1) p p' passed more)
later p' (in_name h) near more = in_name (later_held p' h near)
later p' (in_brace m is h opener) near more = in_brace m is (later_held p' h near) opener

plain_frames : {t : List ℕ} {p : ℕ} {s : Lexer} → Plain t p s → AllByRecursion (FrameFits t) s.frames
plain_frames (at_rest h) = h.frames
plain_frames (in_comment h) = h.frames
plain_frames (in_opened h opener) = h.frames
plain_frames (in_operator a h) = h.fit.frames
plain_frames (in_head h) = h.held.fit.frames
plain_frames (in_piece h) = h.fit.frames
plain_frames (in_dollar h is passed) = h.fit.frames
plain_frames (in_name h) = h.fit.frames
plain_frames (in_brace m is h opener) = h.fit.frames

pub plain_backslash : {t : List ℕ} {p : ℕ} {s : Lexer} → Plain t p s → s.backslash ≡ false
plain_backslash (at_rest h) = h.plain
plain_backslash (in_comment h) = h.plain
plain_backslash (in_opened h opener) = h.plain
plain_backslash (in_operator a h) = h.fit.plain
plain_backslash (in_head h) = h.held.fit.plain
plain_backslash (in_piece h) = h.fit.plain
plain_backslash (in_dollar h is passed) = h.fit.plain
plain_backslash (in_name h) = h.fit.plain
plain_backslash (in_brace m is h opener) = h.fit.plain

no_backquotes : (t : List ℕ) (f : Frame) → FrameFits t f → is_backquotes (Some f) ≡ false
no_backquotes t (Backquotes at quoting) h = absurd h
no_backquotes t _ h = refl

outside : (t : List ℕ) (fs : List Frame) → AllByRecursion (FrameFits t) fs → is_backquotes (slice_get fs 0) ≡ false
outside t [] h = refl
outside t (f ∷ fs) h = no_backquotes t f h.0

plain_outside : {t : List ℕ} {p : ℕ} {s : Lexer} → Plain t p s → is_backquotes (top s) ≡ false
plain_outside {t} {p} {s} h = outside t s.frames (plain_frames h)

-- what the mode tells
braced_gathering : (m : Mode) → is_braced m ≡ true → is_gathering m ≡ false
braced_gathering Gathering is = absurd (let bad : false ≡ true = is in cc)
braced_gathering _ is = refl

braced_head : (m : Mode) → is_braced m ≡ true → is_head m ≡ false
braced_head Head is = absurd (let bad : false ≡ true = is in cc)
braced_head _ is = refl

piece_held : {t : List ℕ} {p : ℕ} {s : Lexer} → Plain t p s → is_gathering s.mode ≡ true → Held t p Gathering s
piece_held {t} {p} {s} (at_rest h) is = clash (is_gathering s.mode) is (ap is_gathering h.mode)
piece_held {t} {p} {s} (in_comment h) is = clash (is_gathering s.mode) is (ap is_gathering h.mode)
piece_held {t} {p} {s} (in_opened h opener) is = clash (is_gathering s.mode) is (ap is_gathering h.mode)
piece_held {t} {p} {s} (in_operator a h) is = clash (is_gathering s.mode) is (ap is_gathering h.fit.mode)
piece_held {t} {p} {s} (in_head h) is = clash (is_gathering s.mode) is (ap is_gathering h.held.fit.mode)
piece_held {t} {p} {s} (in_piece h) is = h
piece_held {t} {p} {s} (in_dollar h dollar passed) is = clash (is_gathering s.mode) is (ap is_gathering h.fit.mode)
piece_held {t} {p} {s} (in_name h) is = clash (is_gathering s.mode) is (ap is_gathering h.fit.mode)
piece_held {t} {p} {s} (in_brace m braced h opener) is = clash (is_gathering s.mode) is (ap is_gathering h.fit.mode ∙ braced_gathering m braced)

heading_held : {t : List ℕ} {p : ℕ} {s : Lexer} → Plain t p s → is_head s.mode ≡ true → Heading t p Head s
heading_held {t} {p} {s} (at_rest h) is = clash (is_head s.mode) is (ap is_head h.mode)
heading_held {t} {p} {s} (in_comment h) is = clash (is_head s.mode) is (ap is_head h.mode)
heading_held {t} {p} {s} (in_opened h opener) is = clash (is_head s.mode) is (ap is_head h.mode)
heading_held {t} {p} {s} (in_operator a h) is = clash (is_head s.mode) is (ap is_head h.fit.mode)
heading_held {t} {p} {s} (in_head h) is = h
heading_held {t} {p} {s} (in_piece h) is = clash (is_head s.mode) is (ap is_head h.fit.mode)
heading_held {t} {p} {s} (in_dollar h dollar passed) is = clash (is_head s.mode) is (ap is_head h.fit.mode)
heading_held {t} {p} {s} (in_name h) is = clash (is_head s.mode) is (ap is_head h.fit.mode)
heading_held {t} {p} {s} (in_brace m braced h opener) is = clash (is_head s.mode) is (ap is_head h.fit.mode ∙ braced_head m braced)

-- behind a backslash
pub piece_begun_fits : {t : List ℕ} {p : ℕ} {s : Lexer} (to : ℕ) → Plain t p s → p ≤ to → Fit t to (to + 1) Ready (piece_begun s to)
unfolding piece_begun
piece_begun_fits {t} {p} {s} to h near =
    let P = Fit t to (to + 1) Ready in
    let done = settled_fits to h near in
    decide P (is_head s.mode) _ _
    (λ is. widen to (to + 1) (fronted_fits to (heading_held h is) near) (omega arith) (omega arith))
    (λ _. either P (is_list (top (settled s to))) _ _ (entered_fits to done (omega arith) (omega arith)) (widen to (to + 1) done (omega arith) (omega arith)))

kept_escape_held : {t : List ℕ} {p : ℕ} {s : Lexer} (b : Byte) → Held t p Gathering s → Held t p Gathering (kept_escape s b)
kept_escape_held {t} {p} {s} b h = either (Held t p Gathering) (is_escaped_in (top s) b.code) _ _ (gather_held b.code h) (gather_held b.code (gather_held 92 h))

escaped_piece : {t : List ℕ} {p : ℕ} {s : Lexer} (b : Byte) → In t b → Held t p Gathering s → p ≤ b.at → is_gathering s.mode ≡ true → is_quoting (top s) ≡ true → Plain t b.end (escaped_in s b)
escaped_piece {t} {p} {s} b here h near gathering quoting =
    let end = here.end in
    let same = decide (Held t b.end Gathering) (is_gathering s.mode) s (begun Gathering (b.at - 1) s) (λ _. later_held b.end h (omega arith)) (λ isnt. clash (is_gathering s.mode) gathering isnt) in
    decide (Plain t b.end) (is_quoting (top s)) _ _ (λ _. in_piece (kept_escape_held b same)) (λ isnt. clash (is_quoting (top s)) quoting isnt)

begun_held : {t : List ℕ} {s : Lexer} (b : Byte) → In t b → Fit t (b.at - 1) (b.at - 1 + 1) Ready s → Held t b.end Gathering (begun Gathering (b.at - 1) s)
begun_held b here h = let end = here.end in let within = here.within in record { fit = begin Gathering (b.at - 1) h; before = omega arith; within = omega arith }

escaped_begun : {t : List ℕ} {s : Lexer} (b : Byte) → In t b → 0 < b.at → Fit t (b.at - 1) (b.at - 1 + 1) Ready s → Plain t b.end (escaped_in s b)
escaped_begun {t} {s} b here some h =
    let end = here.end in
    let new = decide (Held t b.end Gathering) (is_gathering s.mode) s (begun Gathering (b.at - 1) s) (λ so. clash (is_gathering s.mode) so (ap is_gathering h.mode)) (λ _. begun_held b here h) in
    either (Plain t b.end) (is_quoting (top s)) _ _ (in_piece (kept_escape_held b new))
    (at_rest (emit_plain (b.at - 1) b.end _ (bytes_fit true (b.code ∷ [])) h (omega arith) (omega arith) (omega arith)))

escaped_plain : {t : List ℕ} {p : ℕ} {s : Lexer} (b : Byte) → In t b → p + 1 ≡ b.at → Plain t p s → Plain t b.end (escaped s b)
unfolding escaped
escaped_plain {t} {p} {s} b here behind h =
    let P = Plain t b.end in
    decide P (is_gathering s.mode && is_quoting (top s)) _ _
    (λ both. let is = and_left (is_gathering s.mode) (is_quoting (top s)) both in
    escaped_piece b here (piece_held h is) (omega arith) is (and_right (is_gathering s.mode) (is_quoting (top s)) both))
    (λ _. escaped_begun b here (omega arith) (piece_begun_fits (b.at - 1) h (omega arith)))

-- behind p bytes, the last of them a backslash or not
pub record Slashed (t : List ℕ) (p : ℕ) (s : Lexer) : Type 0 where
  pub at : ℕ
  pub next : at + 1 ≡ p
  pub plain : Plain t at (slashed false s)
  pub on : s.backslash ≡ true
  pub there : slice_index t at ≡ 92

pub data State (t : List ℕ) (p : ℕ) (s : Lexer) : Type 0 where
  sound : Sound t p s → State t p s
  behind : Slashed t p s → State t p s

unslashed : {t : List ℕ} {p : ℕ} {s : Lexer} → Plain t p s → Plain t p (slashed false s)
unslashed {t} {p} {s} h = subst (λ on. Plain t p (slashed on s)) (plain_backslash h) h

step_plain : {t : List ℕ} {s : Lexer} (b : Byte) → In t b → slice_index t b.at ≡ b.code → Plain t b.at s → State t b.end (step s b)
unfolding step
step_plain {t} {s} b here code h =
    let P = State t b.end in
    let end = here.end in
    decide P (is_backquotes (top s)) _ _ (λ so. clash (is_backquotes (top s)) so (plain_outside h))
    (λ _. decide P s.backslash _ _ (λ so. clash s.backslash so (plain_backslash h))
    (λ _. decide P ((b.code == 92) && heeds_backslash s) _ _
    (λ both. behind (record {
      at = b.at;
      next = omega arith;
      plain = unslashed h;
      on = refl;
      there = code ∙ eqb-true b.code 92 (and_left (b.code == 92) (heeds_backslash s) both);
    }))
    (λ _. sound (by_mode_sound b here code h))))

step_behind : {t : List ℕ} {s : Lexer} (b : Byte) → In t b → slice_index t b.at ≡ b.code → Slashed t b.at s → State t b.end (step s b)
unfolding step
step_behind {t} {s} b here code h =
    let P = State t b.end in
    let end = here.end in
    let behind = h.next in
    let two = λ (is : b.code ≡ 10). passed_join t h.at b.at b.end (passed_one t h.at b.at behind (ap is_passed h.there)) (passed_one t b.at b.end (omega arith) (ap is_passed (code ∙ is))) in
    decide P (is_backquotes (top s)) _ _ (λ so. clash (is_backquotes (top s)) so (plain_outside h.plain))
    (λ _. decide P s.backslash _ _
    (λ _. decide P (b.code == 10) _ _
    (λ is. sound (plain (later b.end h.plain (omega arith) (two (eqb-true b.code 10 is)))))
    (λ _. sound (plain (escaped_plain b here behind h.plain))))
    (λ isnt. clash s.backslash h.on isnt))

step_quoted : {t : List ℕ} {s : Lexer} (b : Byte) → In t b → slice_index t b.at ≡ b.code → InBackquotes t b.at s → State t b.end (step s b)
unfolding step
step_quoted {t} {s} b here code h =
    decide (State t b.end) (is_backquotes (top s)) _ _ (λ _. sound (quoted (raw_fits b here code h)))
    (λ isnt. clash (is_backquotes (top s)) (ap (λ fs. is_backquotes (slice_get fs 0)) h.is) isnt)

closed_text : {t : List ℕ} {p : ℕ} {s : Lexer} → InBackquotes t p s → s.backslash ≡ false → Aligned t (s.start + 1) s.text s.places p
closed_text {t} {p} {s} h off = elim h.slash as (λ _. Aligned t (s.start + 1) s.text s.places p) [
  | inl x ↦ subst (λ n. Aligned t (s.start + 1) s.text s.places n) x.1 h.text
  | inr x ↦ clash s.backslash x.0 off
]

not_true : (x : Bool) → not x ≡ true → x ≡ false
not_true true h = sym h
not_true false h = refl

next_outside : {t : List ℕ} (s : Lexer) (within : List ℕ → Lexed) (b : Byte) → is_backquotes (top s) ≡ false → State t b.end (step s b) → State t b.end (next within s b)
next_outside {t} s within b isnt h =
    decide (State t b.end) (closes_backquotes s b.code) _ _
    (λ so. clash (is_backquotes (top s)) (and_left (is_backquotes (top s)) _ (and_left (is_backquotes (top s) && not s.backslash) (b.code == 96) so)) isnt)
    (λ _. h)

next_quoted : {t : List ℕ} {s : Lexer} (within : List ℕ → Lexed) (b : Byte) → ((text : List ℕ) → Inner text (within text)) → In t b → slice_index t b.at ≡ b.code → InBackquotes t b.at s → State t b.end (next within s b)
next_quoted {t} {s} within b ok here code h =
    decide (State t b.end) (closes_backquotes s b.code) _ _
    (λ so. let off = not_true s.backslash (and_right (is_backquotes (top s)) (not s.backslash) (and_left (is_backquotes (top s) && not s.backslash) (b.code == 96) so)) in
    sound (plain (at_rest (embedded_fits (within s.text) b here h off (closed_text h off) (ok s.text)))))
    (λ _. step_quoted b here code h)

next_state : {t : List ℕ} {s : Lexer} (within : List ℕ → Lexed) (b : Byte) → ((text : List ℕ) → Inner text (within text)) → In t b → slice_index t b.at ≡ b.code → State t b.at s → State t b.end (next within s b)
next_state {t} {s} within b ok here code (sound (plain h)) = next_outside s within b (plain_outside h) (step_plain b here code h)
next_state within b ok here code (sound (quoted h)) = next_quoted within b ok here code h
next_state {t} {s} within b ok here code (behind h) = next_outside s within b (plain_outside h.plain) (step_behind b here code h)

run_state : (t : List ℕ) (within : List ℕ → Lexed) → ((text : List ℕ) → Inner text (within text)) → (bs : List ℕ) (at : ℕ) (s : Lexer) → at + length bs ≡ length t → ((k : ℕ) → k < length bs → slice_index t (at + k) ≡ slice_index bs k) → State t at s → State t (length t) (run within s at bs)
run_state t within ok [] at s size all h = let same : at ≡ length t = omega arith in subst (λ n. State t n s) same h
run_state t within ok (b ∷ bs) at s size all h =
    let here : In t (byte_at b at) = record { within = omega arith; end = refl } in
    let code : slice_index t at ≡ b = let same : at + 0 ≡ at = omega arith in subst (λ n. slice_index t n ≡ b) same (all 0 (omega arith)) in
    let rest : (k : ℕ) → k < length bs → slice_index t (at + 1 + k) ≡ slice_index bs k =
    λ k below. let same : at + suc k ≡ at + 1 + k = omega arith in subst (λ n. slice_index t n ≡ slice_index bs k) same (all (suc k) (omega arith)) in
    run_state t within ok bs (at + 1) (next within s (byte_at b at)) (omega arith) rest (next_state within (byte_at b at) ok here code h)

first_state : (t : List ℕ) → State t 0 at_first
first_state t = sound (plain (at_rest (record { frames = tt; spot = tt; zero = tt; fault = tt; places = refl; plain = refl; mode = refl; items = (omega arith, omega arith) })))

pub text_state : (t : List ℕ) (within : List ℕ → Lexed) → ((text : List ℕ) → Inner text (within text)) → State t (length t) (run within at_first 0 t)
text_state t within ok =
    run_state t within ok t 0 at_first (omega arith) (λ k below. let same : k ≡ 0 + k = omega arith in subst (λ n. slice_index t n ≡ slice_index t k) same refl) (first_state t)
