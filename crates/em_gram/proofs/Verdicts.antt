-- A line has a tree or a fault, and not two.
use Rattle.std.proofs.Common.{◌≡◌, ◌≢◌, inl, inr, ℕ, suc, ◌-◌, ◌==◌, cond, List, [], ◌∷◌, ◌++◌, length, Option, Some, None, refl, sym, ap, subst, ◌∙◌}
use Rattle.std.proofs.lemmas.List.{append-nil, append_assoc}
use Rattle.std.proofs.lemmas.Bool.{eqb-true}
use Rattle.em_base.specs.declared.construct.Construct.{Construct}
use Rattle.em_grammar.specs.Production.{Lang, depth}
use Rattle.em_grammar.specs.Machine.{run, Outcome, done, fault}
use Rattle.em_grammar.specs.Faults.{Stops, IsFirstFault}
use Rattle.em_grammar.proofs.Reading.{both}
use Rattle.em_lexeme.specs.declared.lexeme.Lexed.{Lexed}
use Rattle.em_lexeme.specs.declared.lexeme.What.{What}
use Rattle.em_lexeme.specs.declared.no.LexNo.{LexNo}
use Rattle.em_syntax.specs.declared.tree.Script.{Script}
use Rattle.em_token.specs.Kinds.{whats}
use Rattle.em_token.specs.Shell.{shell, line, background, function}
use Rattle.em_gram.specs.Line.{IsLine, IsScript, IsUpTo, IsFault, ends_with, may_be, steps_back, place_at, FirstFault, StopIs, GoesOn, number_of, RefusedHere, UnexpectedAt}
use Rattle.em_gram.specs.declared.no.GramNo.{GramNo}
use Rattle.em_token.proofs.Checked.{line_right, line_names}
use Rattle.em_gram.proofs.Whole.{real}

-- first faults
module _ {T : Type 0} where
  stops_at : (L : Lang T) (before : List T) (t : T) (ts rest : List T) → rest ≡ t ∷ ts → Stops L before rest → (more : List T) → L (before ++ t ∷ more) → ⊥
  stops_at L before t ts rest e s = subst (λ (z : List T). Stops L before z) e s

  behind_one : (L : Lang T) (x : T) (before rest : List T) → Stops L (x ∷ before) rest → Stops (λ us. L (x ∷ us)) before rest
  behind_one L x before [] s = s
  behind_one L x before (t ∷ ts) s = s

  same_place : (L : Lang T) (b r c s : List T) → b ++ r ≡ c ++ s → (more : List T) × L (b ++ more) → Stops L b r → (more : List T) × L (c ++ more) → Stops L c s → b ≡ c
  same_place L [] r [] s e g p h q = refl
  same_place L [] r (y ∷ c) s e g p h q = absurd (stops_at L [] y (c ++ s) r e p (c ++ h.0) h.1)
  same_place L (x ∷ b) r [] s e g p h q = absurd (stops_at L [] x (b ++ r) s (sym e) q (b ++ g.0) g.1)
  same_place L (x ∷ b) r (y ∷ c) s e g p h q =
      let i : x ≡ y = cc in
      let j : b ++ r ≡ c ++ s = cc in
      let h' : (more : List T) × L (x ∷ (c ++ more)) = rw i h in
      let q' : Stops L (x ∷ c) s = rw i q in
      let k = same_place (λ us. L (x ∷ us)) b r c s j g (behind_one L x b r p) h' (behind_one L x c s q') in
      rw (i, k) refl

  pub same_before : (L : Lang T) (ts r s : List T) (f : IsFirstFault L ts r) (g : IsFirstFault L ts s) → f.before ≡ g.before
  same_before L ts r s f g = same_place L f.before r g.before s (sym f.whole ∙ g.whole) f.goes_on f.stops g.goes_on g.stops

  -- where something goes on from all tokens, a first fault stands at their end
  pub at_end : (L : Lang T) (ts rest : List T) → IsFirstFault L ts rest → (more : List T) × L (ts ++ more) → rest ≡ []
  at_end L ts [] f g = refl
  at_end L ts (t ∷ us) f g =
      absurd (f.stops (us ++ g.0) (subst (λ (z : List T). L z) (ap (λ z. z ++ g.0) f.whole ∙ append_assoc f.before (t ∷ us) g.0) g.1))

  -- what is in the language has none
  pub no_fault : (L : Lang T) (ts rest : List T) → IsFirstFault L ts rest → L ts → ⊥
  no_fault L ts rest f h = at rest f (at_end L ts rest f ([], rw (append-nil ts) h))
    where
      at : (us : List T) → IsFirstFault L ts us → us ≡ [] → ⊥
      at [] g e = g.stops (subst (λ (z : List T). L z) (g.whole ∙ append-nil g.before) h)
      at (u ∷ us) g e = absurd cc

-- the construct that may end a line up to its first fault
first_up_to : (ts rest : List What) (j : ℕ) → IsFirstFault IsLine ts rest → IsUpTo (suc j) ts → (c : ℕ) × (us : List What) × (run shell ((64, line) ∷ []) ts ≡ fault c us)
first_up_to ts rest j f h = at (run shell ((64, line) ∷ []) ts) refl
  where
    at : (o : Outcome What) → run shell ((64, line) ∷ []) ts ≡ o → (c : ℕ) × (us : List What) × (run shell ((64, line) ∷ []) ts ≡ fault c us)
    at done e = absurd (no_fault IsLine ts rest f (rw e at (line_right ts)))
    at (fault c us) e = (c, us, e)

is_construct : (ts us : List What) (c j : ℕ) → run shell ((64, line) ∷ []) ts ≡ fault c us → IsUpTo (suc j) ts → c ≡ suc j
is_construct ts us c j r h = let p = both (c == suc j) (may_be c us) (line_names (ends_with (suc j)) (real j) ts c us r h) in eqb-true c (suc j) p.0

same_construct : (ts rest : List What) (i j : ℕ) → IsFirstFault IsLine ts rest → IsUpTo (suc i) ts → IsUpTo (suc j) ts → suc i ≡ suc j
same_construct ts rest i j f g h =
    let x = first_up_to ts rest i f g in
    sym (is_construct ts x.1 x.0 i x.2 g) ∙ is_construct ts x.1 x.0 j x.2 h

-- constructs by their number
abbrev construct_of : ℕ → Construct
construct_of n = cond (n == depth) Construct.Depth (cond (n == background) Construct.Background (cond (n == function) Construct.Function Construct.Positional))

some_same : (a b : ℕ) → Some a ≡ Some b → a ≡ b
some_same a b e = ap (or_else a) e
  where
    or_else : ℕ → Option ℕ → ℕ
    or_else d None = d
    or_else d (Some x) = x

numbered : (k : Construct) (c : ℕ) → number_of k ≡ Some c → (j : ℕ) × (c ≡ suc j) × (k ≡ construct_of c)
numbered Construct.Depth c e = let i = some_same 1 c e in (0, sym i, rw (← i) refl)
numbered Construct.Background c e = let i = some_same 2 c e in (1, sym i, rw (← i) refl)
numbered Construct.Function c e = let i = some_same 3 c e in (2, sym i, rw (← i) refl)
numbered Construct.Positional c e = let i = some_same 4 c e in (3, sym i, rw (← i) refl)
numbered _ c e = absurd cc

-- the faults of a line
abbrev of_lexer : LexNo → GramNo
of_lexer (LexNo.Unclosed at) = GramNo.Unclosed at
of_lexer (LexNo.Refused construct at) = GramNo.Refused construct at
of_lexer LexNo.NoMemory = GramNo.NoMemory

data FaultView (lexed : Lexed) (len : ℕ) (e : GramNo) : Type 0 where
  stopped : (no : LexNo) → StopIs lexed no → e ≡ of_lexer no → FaultView lexed len e
  refused : (k : Construct) (j at : ℕ) → k ≡ construct_of (suc j) → RefusedHere lexed len (suc j) at → e ≡ GramNo.Refused k at → FaultView lexed len e
  unexpected : (at : ℕ) → UnexpectedAt lexed len at → e ≡ GramNo.Unexpected at → FaultView lexed len e

fault_view : (lexed : Lexed) (len : ℕ) (e : GramNo) → IsFault lexed len e → e ≢ GramNo.NoMemory → FaultView lexed len e
fault_view lexed len (GramNo.Unexpected at) h n = unexpected at h refl
fault_view lexed len (GramNo.Unclosed at) h n = stopped (LexNo.Unclosed at) h refl
fault_view lexed len (GramNo.Refused k at) (inl h) n = stopped (LexNo.Refused k at) h refl
fault_view lexed len (GramNo.Refused k at) (inr h) n = by (number_of k) refl h
  where
    by : (o : Option ℕ) → number_of k ≡ o → Rattle.em_gram.specs.Line.RefusedBy lexed len o at → FaultView lexed len (GramNo.Refused k at)
    by None i m = absurd m
    by (Some c) i m = let x = numbered k c i in refused k x.0 at (x.2 ∙ ap construct_of x.1) (subst (λ (z : ℕ). RefusedHere lexed len z at) x.1 m) refl
fault_view lexed len GramNo.NoMemory h n = absurd (n refl)

-- the lexer's fault comes where the grammar has none
no_stop : (lexed : Lexed) (len back at : ℕ) (a : LexNo) → FirstFault lexed len back at → StopIs lexed a → ⊥
no_stop lexed len back at a f s = let i = f.counts (at_end IsLine (whats lexed.items) f.rest f.first s.goes_on) in let j = s.stop in cc

same_at : (lexed : Lexed) (len back at bt : ℕ) → FirstFault lexed len back at → FirstFault lexed len back bt → at ≡ bt
same_at lexed len back at bt f g = f.place ∙ ap (λ z. place_at lexed.items (length z - back) len) (same_before IsLine (whats lexed.items) f.rest g.rest f.first g.first) ∙ sym g.place

same_stop : (a b : LexNo) → Some a ≡ Some b → a ≡ b
same_stop a b e = ap (or_else a) e
  where
    or_else : LexNo → Option LexNo → LexNo
    or_else d None = d
    or_else d (Some x) = x

same_fault : (lexed : Lexed) (len : ℕ) (e f : GramNo) → FaultView lexed len e → FaultView lexed len f → e ≡ f
same_fault lexed len e f (stopped a s i) (stopped b u j) = i ∙ ap of_lexer (same_stop a b (sym s.stop ∙ u.stop)) ∙ sym j
same_fault lexed len e f (stopped a s i) (refused k c at w r j) = absurd (no_stop lexed len _ at a r.first s)
same_fault lexed len e f (stopped a s i) (unexpected at r j) = absurd (no_stop lexed len 0 at a r.first s)
same_fault lexed len e f (refused k c at w r j) (stopped a s i) = absurd (no_stop lexed len _ at a r.first s)
same_fault lexed len e f (unexpected at r j) (stopped a s i) = absurd (no_stop lexed len 0 at a r.first s)
same_fault lexed len e f (refused k c at w r i) (unexpected bt u j) = absurd (u.none c r.up_to)
same_fault lexed len e f (unexpected bt u j) (refused k c at w r i) = absurd (u.none c r.up_to)
same_fault lexed len e f (unexpected at r i) (unexpected bt u j) = i ∙ ap (λ z. GramNo.Unexpected z) (same_at lexed len 0 at bt r.first u.first) ∙ sym j
same_fault lexed len e f (refused k c at w r i) (refused l d bt v u j) =
    let first = r.first in
    let x : suc c ≡ suc d = same_construct (whats lexed.items) first.rest c d first.first r.up_to u.up_to in
    let y : k ≡ l = w ∙ ap construct_of x ∙ sym v in
    let z : at ≡ bt = same_at lexed len (steps_back (suc d)) at bt (subst (λ (m : ℕ). FirstFault lexed len (steps_back m) at) x r.first) u.first in
    i ∙ (rw (y, z) refl) ∙ sym j

pub only_fault : (lexed : Lexed) (len : ℕ) (e f : GramNo) → IsFault lexed len e → IsFault lexed len f → e ≢ GramNo.NoMemory → f ≢ GramNo.NoMemory → e ≡ f
only_fault lexed len e f g h m n = same_fault lexed len e f (fault_view lexed len e g m) (fault_view lexed len f h n)

no_tree : (lexed : Lexed) (len : ℕ) (s : Script) (e : GramNo) → IsScript lexed s → FaultView lexed len e → ⊥
no_tree lexed len s e h (stopped a u i) = let j = h.read in let k = u.stop in cc
no_tree lexed len s e h (refused k c at w r i) = let f = r.first in no_fault IsLine (whats lexed.items) f.rest f.first h.line_is
no_tree lexed len s e h (unexpected at r i) = let f = r.first in no_fault IsLine (whats lexed.items) f.rest f.first h.line_is

pub tree_or_fault : (lexed : Lexed) (len : ℕ) (s : Script) (e : GramNo) → IsScript lexed s → IsFault lexed len e → e ≡ GramNo.NoMemory
tree_or_fault lexed len s (GramNo.Unexpected at) h g = absurd (no_tree lexed len s (GramNo.Unexpected at) h (fault_view lexed len (GramNo.Unexpected at) g (λ i. cc)))
tree_or_fault lexed len s (GramNo.Unclosed at) h g = absurd (no_tree lexed len s (GramNo.Unclosed at) h (fault_view lexed len (GramNo.Unclosed at) g (λ i. cc)))
tree_or_fault lexed len s (GramNo.Refused k at) h g = absurd (no_tree lexed len s (GramNo.Refused k at) h (fault_view lexed len (GramNo.Refused k at) g (λ i. cc)))
tree_or_fault lexed len s GramNo.NoMemory h g = refl
