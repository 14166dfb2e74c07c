-- What a text is read to: its lexemes one behind the other, and a fault that stands in it.
use Rattle.std.proofs.Common.{◌≡◌, ℕ, zero, suc, ◌+◌, ◌-◌, ◌<◌, ◌≤◌, leb, Bool, true, false, List, [], ◌∷◌, take, slice_get, length, refl, sym, ap, subst, arith, inl, inr}
use Rattle.std.specs.Prelude.{Option, None, Some, IfSome}
use Rattle.std.specs.List.{AllByRecursion}
use Rattle.em_lexeme.specs.declared.lexeme.Lexeme.{Lexeme}
use Rattle.em_lexeme.specs.declared.lexeme.Lexed.{Lexed}
use Rattle.em_lexeme.specs.declared.lexeme.What.{What}
use Rattle.em_lexeme.specs.declared.lexeme.What.TheVariants.{WordStart, WordEnd, Bytes}
use Rattle.em_lexeme.specs.declared.frame.Frame.{Frame}
use Rattle.em_lexeme.specs.declared.frame.Frame.TheVariants.{Single, Double, Backquotes, Argument, Substitution}
use Rattle.em_lexeme.specs.declared.no.LexNo.{LexNo}
use Rattle.em_lexeme.specs.declared.no.LexNo.TheVariants.{Unclosed, Refused, NoMemory}
use Rattle.em_lexeme.specs.Faults.{place_of, leftmost, count_until, up_to}
use Rattle.em_lexeme.specs.Frames.{is_list, is_word, is_quoted, opener, or_else, outermost}
use Rattle.em_lex.specs.declared.state.Lexer.{Lexer}
use Rattle.em_lex.specs.declared.state.Mode.TheVariants.{Ready, Gathering}
use Rattle.em_lex.specs.Steps.{lexeme, emitted, top}
use Rattle.em_lex.specs.Modes.{settled, settled_in, left}
use Rattle.em_lex.specs.Quotes.{is_head, piece_begun, slashed}
use Rattle.em_lex.specs.Lexing.{last_backslash, word_left, finished, outcome, read_through, at_first, lexed_in, lexed}
use Rattle.em_lex.specs.Standing.{Opens, Stands}
use Rattle.em_lex.proofs.Quoted.{level, top_level}
use Rattle.em_lex.proofs.Fits.{decide, either, Sized, least, Laid, laid_after, laid_append, FrameFits, Fit, emit_plain}
use Rattle.em_lex.proofs.Puts.{bytes_fit}
use Rattle.em_lex.proofs.Backquoted.{Begins, aligned_size, laid_end}
use Rattle.em_lex.proofs.Embedded.{InBackquotes, Inner}
use Rattle.em_lex.proofs.Stepping.{settled_fits, left_fits}
use Rattle.em_lex.proofs.Stepping.Plain.{at_rest}
use Rattle.em_lex.proofs.Stepping.Sound.{plain, quoted}
use Rattle.em_lex.proofs.Running.{State, plain_backslash, piece_begun_fits, clash, text_state}
use Rattle.em_lex.proofs.Running.State.{sound, behind}

abbrev Opening : List ℕ → Frame → Type 0
Opening t f = IfSome (opener f) (Opens t)

-- behind the whole text
record Final (t : List ℕ) (s : Lexer) : Type 0 where
  frames : AllByRecursion (Opening t) s.frames
  fault : IfSome s.fault (Stands t)
  items : Laid 0 0 s.items (length t) (length t)

opening : (t : List ℕ) (f : Frame) → FrameFits t f → Opening t f
opening t (Single at) h = h
opening t (Double at) h = h
opening t (Backquotes at quoting) h = absurd h
opening t (Argument at quoting) h = h
opening t (Substitution at spot) h = h.0
opening t _ h = tt

all_opening : (t : List ℕ) (fs : List Frame) → AllByRecursion (FrameFits t) fs → AllByRecursion (Opening t) fs
all_opening t [] h = tt
all_opening t (f ∷ fs) h = (opening t f h.0, all_opening t fs h.1)

word_left_final : {t : List ℕ} {s : Lexer} → Fit t (length t) (length t) Ready s → Final t (word_left s (length t))
word_left_final {t} {s} h =
    let n = length t in
    let end = either (Fit t n n Ready) (is_word (top s)) (left s n) s (left_fits n h (omega arith) (omega arith)) h in
    record { frames = all_opening t _ end.frames; fault = end.fault; items = end.items }

-- in backquotes that aren't closed
record Open (t : List ℕ) (e : ℕ) (s : Lexer) : Type 0 where
  at : ℕ
  quoting : Bool
  outer : List Frame
  is : s.frames ≡ Backquotes at quoting ∷ outer
  opens : Opens t at
  frames : AllByRecursion (FrameFits t) outer
  fault : IfSome s.fault (Stands t)
  mode : s.mode ≡ Ready
  items : Laid 0 0 s.items e e

open_settled : {t : List ℕ} {p : ℕ} {s : Lexer} (on : Bool) (to : ℕ) → InBackquotes t p s → s.start < to → Open t to (settled (slashed on s) to)
unfolding settled
open_settled {t} {p} {s} on to h some =
    let item = lexeme s.start to (Bytes (is_quoted (top s)) s.text) in
    let put : Open t to (settled_in Gathering (slashed on s) to) = record {
      at = h.at;
      quoting = h.quoting;
      outer = h.outer;
      is = h.is;
      opens = h.opens;
      frames = h.frames;
      fault = h.fault;
      mode = refl;
      items = laid_append s.items (item ∷ []) 0 0 s.start to (s.start + 1) to h.items (omega arith, some, (omega arith, omega arith));
    } in
    subst (λ m. Open t to (settled_in m (slashed on s) to)) (sym h.mode) put

open_final : {t : List ℕ} {s : Lexer} → Open t (length t) s → Final t (word_left s (length t))
open_final {t} {s} h =
    let isnt : is_word (top s) ≡ false = ap (λ fs. is_word (slice_get fs 0)) h.is in
    decide (Final t) (is_word (top s)) _ _ (λ so. clash (is_word (top s)) so isnt)
    (λ _. record {
      frames = subst (AllByRecursion (Opening t)) (sym h.is) (h.opens, all_opening t h.outer h.frames);
      fault = h.fault;
      items = h.items;
    })

open_ready : {t : List ℕ} {e : ℕ} {s : Lexer} (to : ℕ) → Open t e s → Open t e (settled s to)
unfolding settled
open_ready {t} {e} {s} to h = subst (λ m. Open t e (settled_in m s to)) (sym h.mode) h

open_begun : {t : List ℕ} {p : ℕ} {s : Lexer} (to : ℕ) → InBackquotes t p s → s.start < to → Open t to (piece_begun (slashed false s) to)
unfolding piece_begun
open_begun {t} {p} {s} to h some =
    let done = open_settled false to h some in
    let isnt : is_list (top (settled (slashed false s) to)) ≡ false = ap (λ fs. is_list (slice_get fs 0)) done.is in
    decide (Open t to) (is_head s.mode) _ _ (λ so. clash (is_head s.mode) so (ap is_head h.mode))
    (λ _. decide (Open t to) (is_list (top (settled (slashed false s) to))) _ _ (λ so. clash (is_list (top (settled (slashed false s) to))) so isnt) (λ _. done))

open_emitted : {t : List ℕ} {e : ℕ} {s : Lexer} (kept : Bool) (text : List ℕ) (to : ℕ) → Open t e s → e < to → Open t to (emitted s e to (Bytes kept text))
open_emitted {t} {e} {s} kept text to h some = record {
  at = h.at;
  quoting = h.quoting;
  outer = h.outer;
  is = h.is;
  opens = h.opens;
  frames = h.frames;
  fault = h.fault;
  mode = h.mode;
  items = laid_append s.items (lexeme e to (Bytes kept text) ∷ []) 0 0 e to e to h.items (omega arith, some, (omega arith, omega arith));
}

-- the end of the text in backquotes, behind a backslash or not
open_off : {t : List ℕ} {s : Lexer} → InBackquotes t (length t) s → s.backslash ≡ false → s.start < length t → Final t (word_left (settled (last_backslash s (length t)) (length t)) (length t))
open_off {t} {s} h off some =
    let n = length t in
    decide (λ u. Final t (word_left (settled u n) n)) s.backslash _ _ (λ so. clash s.backslash so off) (λ _. open_final (open_settled s.backslash n h some))

open_on : {t : List ℕ} {s : Lexer} → InBackquotes t (length t) s → s.backslash ≡ true → s.start + 1 < length t → Final t (word_left (settled (last_backslash s (length t)) (length t)) (length t))
open_on {t} {s} h on some =
    let n = length t in
    decide (λ u. Final t (word_left (settled u n) n)) s.backslash _ _
    (λ _. open_final (open_ready n (open_emitted true (92 ∷ []) n (open_begun (n - 1) h (omega arith)) (omega arith))))
    (λ isnt. clash s.backslash on isnt)

finished_final : {t : List ℕ} {s : Lexer} → State t (length t) s → Final t (finished s (length t))
unfolding finished
finished_final {t} {s} (sound (plain h)) =
    let n = length t in
    decide (λ u. Final t (word_left (settled u n) n)) s.backslash _ _ (λ so. clash s.backslash so (plain_backslash h)) (λ _. word_left_final (settled_fits n h (omega arith)))
finished_final {t} {s} (behind h) =
    let n = length t in
    let next = h.next in
    let before : h.at ≡ n - 1 = omega arith in
    let begun = piece_begun_fits (n - 1) h.plain (omega arith) in
    let last = at_rest (emit_plain (n - 1) n _ (bytes_fit true (92 ∷ [])) begun (omega arith) (omega arith) (omega arith)) in
    decide (λ u. Final t (word_left (settled u n) n)) s.backslash _ _ (λ _. word_left_final (settled_fits n last (omega arith))) (λ isnt. clash s.backslash h.on isnt)
finished_final {t} {s} (sound (quoted h)) =
    let n = length t in
    let size = aligned_size t s.text s.places (s.start + 1) h.edge h.text in
    elim h.slash as (λ _. Final t (word_left (settled (last_backslash s n) n) n)) [
      | inl x ↦ let edge = x.1 in open_off h x.0 (omega arith)
      | inr x ↦ let edge = x.1 in open_on h x.0 (omega arith)
    ]

-- the leftmost fault, and what stands before it
pub record Lexes (t : List ℕ) (l : Lexed) : Type 0 where
  pub items : Laid 0 0 l.items (length t) (length t + 1)
  pub stop : IfSome l.stop (Stands t)

or_else_opens : (t : List ℕ) (o found : Option ℕ) → IfSome o (Opens t) → IfSome found (Opens t) → IfSome (or_else o found) (Opens t)
or_else_opens t None found h more = more
or_else_opens t (Some at) found h more = h

outermost_opens : (t : List ℕ) (fs : List Frame) (found : Option ℕ) → AllByRecursion (Opening t) fs → IfSome found (Opens t) → IfSome (outermost fs found) (Opens t)
outermost_opens t [] found h more = more
outermost_opens t (f ∷ fs) found h more = outermost_opens t fs (or_else (opener f) found) h.1 (or_else_opens t (opener f) found h.0 more)

leftmost_stands : (t : List ℕ) (o : Option ℕ) (f : Option LexNo) → IfSome o (Opens t) → IfSome f (Stands t) → IfSome (leftmost o f) (Stands t)
leftmost_stands t None f h more = more
leftmost_stands t (Some at) None h more = h
leftmost_stands t (Some at) (Some f) h more = either (λ o. IfSome o (Stands t)) (leb at (place_of f)) (Some (Unclosed at)) (Some f) h more

sized_least : (w : What) (m from to : ℕ) → m ≤ from + 1 → Sized w m from to → least w from m ≤ to + 1
sized_least (WordStart w) m from to low is = omega arith
sized_least WordEnd m from to low is = let same = is.0 in omega arith
sized_least _ m from to low is = omega arith

laid_take : (ls : List Lexeme) (n a m e k : ℕ) → m ≤ a + 1 → Laid a m ls e k → Laid a m (take n ls) e (e + 1)
laid_take ls zero a m e k low h = let near = laid_end ls a m e k h in (near, omega arith)
laid_take [] (suc n) a m e k low h = (h.0, let near = h.0 in omega arith)
laid_take (l ∷ ls) (suc n) a m e k low h =
    let near = h.0 in
    (near, h.1, laid_take ls n l.span.end (least l.what l.span.start m) e k (sized_least l.what m l.span.start l.span.end (omega arith) h.1) h.2)

up_to_lexes : (t : List ℕ) (o : Option LexNo) (ls : List Lexeme) → IfSome o (Stands t) → Laid 0 0 ls (length t) (length t) → Lexes t (up_to o ls)
up_to_lexes t None ls h laid = record { items = laid_after ls 0 0 (length t) (length t) (length t) (length t + 1) (omega arith) (omega arith) laid; stop = tt }
up_to_lexes t (Some f) ls h laid = record { items = laid_take ls (count_until (place_of f) ls) 0 0 (length t) (length t) (omega arith) laid; stop = h }

outcome_lexes : {t : List ℕ} {s : Lexer} → Final t s → Lexes t (outcome s)
outcome_lexes {t} {s} h = up_to_lexes t (leftmost (outermost s.frames None) s.fault) s.items (leftmost_stands t (outermost s.frames None) s.fault (outermost_opens t s.frames None h.frames tt) h.fault) h.items

read_lexes : (within : List ℕ → Lexed) → ((text : List ℕ) → Inner text (within text)) → (t : List ℕ) → Lexes t (outcome (read_through within at_first t))
read_lexes within ok t = outcome_lexes (finished_final (text_state t within ok))

stands_begins : (t : List ℕ) (f : LexNo) → Stands t f → Begins t f
stands_begins t (Unclosed at) h = h
stands_begins t (Refused construct at) h = tt
stands_begins t NoMemory h = h

stop_begins : (t : List ℕ) (o : Option LexNo) → IfSome o (Stands t) → IfSome o (Begins t)
stop_begins t None h = tt
stop_begins t (Some f) h = stands_begins t f h

no_levels : (t : List ℕ) → Inner t (lexed_in zero t)
unfolding lexed_in
no_levels t = record { items = (omega arith, omega arith); stop = tt }

levels : (n : ℕ) (t : List ℕ) → Inner t (lexed_in n t)
levels zero t = no_levels t
levels (suc n) t =
    let is = read_lexes (lexed_in n) (levels n) t in
    subst (Inner t) (sym (level n t)) (record { items = is.items; stop = stop_begins t _ is.stop })

pub line_lexes : (line : List ℕ) → Lexes line (lexed line)
line_lexes line = subst (Lexes line) (sym (top_level line)) (read_lexes (lexed_in 63) (levels 63) line)
