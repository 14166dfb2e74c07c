-- What is spelled by one part behind another, cut between the two.
use Rattle.std.proofs.Common.{◌≡◌, ◌⊎◌, inl, inr, ℕ, zero, suc, ◌≤◌, List, [], ◌∷◌, length, refl, arith}
use Rattle.em_grammar.specs.Production.{Production, empty, one, this, ◌⨾◌, ◌∣◌, many, more, nested, inner, last, balanced, refused, Lang, Reads, Times, Closes, Balance, nothing, Front}
use Rattle.em_grammar.specs.Machine.{Grammar}
use Rattle.em_grammar.specs.Gives.{Spells}
use Rattle.em_grammar.proofs.Reading.{Behind, left_over, ended, behind}

module _ {T : Type 0} (G : Grammar T) where
  abbrev P : Production T → Lang T → Lang T
  P = Front G.class nothing 0 (λ K us. ⊥)

  -- what a front leads to, whatever follows it
  abbrev Leads : (Lang T → Lang T) → Type 1
  Leads f = (K : Lang T) (ts : List T) (C : Type 0) → f K ts → ((us : List T) → length us ≤ length ts → K us → C) → C

  leads_chain : (f g : Lang T → Lang T) → Leads f → Leads g → Leads (λ L. f (g L))
  leads_chain f g a b K ts C h k = a (g K) ts C h (λ us l m. b K us C m (λ vs n x. k vs (omega (arith, l, n)) x))

  leads_reads : (Q : T → Type 0) → Leads (Reads Q)
  leads_reads Q K [] C h k = absurd h
  leads_reads Q K (t ∷ ts) C h k = k ts (omega arith) h.1

  leads_same : Leads (λ L. L)
  leads_same K ts C h k = k ts (omega arith) h

  leads_times : (f : Lang T → Lang T) → Leads f → (n : ℕ) → Leads (Times n f)
  leads_times f a zero = leads_same
  leads_times f a (suc n) = leads_chain f (Times n f) a (leads_times f a n)

  leads_closes : (k : ℕ) (c : List ℕ) (f : ℕ → Lang T → Lang T) → ((j : ℕ) → Leads (f j)) → Leads (λ L. Closes G.class k c (λ j. f j L))
  leads_closes zero c f a K ts C h k = absurd h
  leads_closes (suc j) c f a K ts C h k = leads_chain (Reads _) (f j) (leads_reads _) (a j) K ts C h k

  leads_balance : (o : List ℕ) (f : Lang T → Lang T) (c : List ℕ) → Leads f → (n k : ℕ) → Leads (Balance G.class n k o f c)
  leads_balance o f c a zero zero K ts C h k = k ts (omega arith) h
  leads_balance o f c a zero (suc j) K ts C h k = absurd h
  leads_balance o f c a (suc n) j K ts C (inl h) k = leads_chain f (Balance G.class n j o f c) a (leads_balance o f c a n j) K ts C h k
  leads_balance o f c a (suc n) j K ts C (inr (inl h)) k = leads_chain (Reads _) (Balance G.class n (suc j) o f c) (leads_reads _) (leads_balance o f c a n (suc j)) K ts C h k
  leads_balance o f c a (suc n) j K ts C (inr (inr h)) k = leads_closes j c (λ i. Balance G.class n i o f c) (λ i. leads_balance o f c a n i) K ts C h k

  leads_last : (f : Lang T → Lang T) → Leads f → Leads (λ L us. L us ⊎ f L us)
  leads_last f a K ts C (inl h) k = k ts (omega arith) h
  leads_last f a K ts C (inr h) k = a K ts C h k

  leads : (e : Production T) → Leads (P e)
  leads empty K ts C h k = k ts (omega arith) h
  leads (one s) K ts C h k = leads_reads _ K ts C h k
  leads (this s u) K ts C h k = leads_reads _ K ts C h k
  leads (e ⨾ f) K ts C h k = leads_chain (P e) (P f) (leads e) (leads f) K ts C h k
  leads (e ∣ f) K ts C (inl h) k = leads e K ts C h k
  leads (e ∣ f) K ts C (inr h) k = leads f K ts C h k
  leads (many e) K ts C h k = leads_times (P e) (leads e) h.0 K ts C h.1 k
  leads (more a s) K ts C h k = leads_chain (Times h.0 (λ L. P s (P a L))) (λ L us. L us ⊎ P s L us) (leads_times (λ L. P s (P a L)) (leads_chain (P s) (P a) (leads s) (leads a)) h.0) (leads_last (P s) (leads s)) K ts C h.1 k
  leads (nested s e) K ts C h k = absurd (let m = h.1 in cc)
  leads inner K ts C h k = absurd h
  leads (last s) K ts C h k = k ts (omega arith) h.1
  leads (balanced j o e c) K ts C h k = leads_balance o (P e) c (leads e) h.0 j K ts C h.1 k
  leads (refused s c) K ts C h k = absurd (let m = h.1 in cc)

  -- a p up to `at`, and a q from there
  pub record Cut (p q : Production T) (ts rest : List T) : Type 0 where
    pub at : List T
    pub first : Spells G p ts at
    pub second : Spells G q at rest
    pub within : length at ≤ length ts

  pub shorter : (p : Production T) (ts us : List T) → Spells G p ts us → length us ≤ length ts
  shorter p ts us h = leads p (λ vs. vs ≡ us) ts (length us ≤ length ts) h (λ vs l e. rw (← e) l)

  pub cut : (p q : Production T) (ts rest : List T) → Spells G (p ⨾ q) ts rest → Cut p q ts rest
  cut p q ts rest h = at (behind G.class nothing 0 (λ K us. ⊥) (λ K us m. absurd m) p (P q (λ vs. vs ≡ rest)) ts h)
    where
      at : Behind (P p) (P q (λ vs. vs ≡ rest)) ts → Cut p q ts rest
      at (left_over us k x) = record { at = us; first = x (λ vs. vs ≡ us) refl; second = k; within = shorter p ts us (x (λ vs. vs ≡ us) refl) }
      at (ended x) = absurd (leads p (λ us. ⊥) ts ⊥ (x (λ us. ⊥)) (λ us l m. m))
