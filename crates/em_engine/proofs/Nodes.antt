-- The tree over flags: what its nodes tell of the flags, and how it is mended from a flag upwards.
use Rattle.std.proofs.Common.{ℕ, zero, suc, ◌+◌, ◌-◌, ◌*◌, ◌/◌, ◌%◌, ◌^◌, ◌≡◌, ◌≢◌, ◌<◌, ◌≤◌, List, [], ◌∷◌, Bool, true, false, ◌||◌, length, set, get_or, drop, replicate, refl, sym, ap, ◌∙◌, inl, inr, arith}
use Rattle.std.specs.Prelude.{Some, slice_get, ◌⊎◌, ◌==◌}
use Rattle.std.proofs.lemmas.Bool.{or_parts, eqb-true, eq-eqb}
use Rattle.std.proofs.lemmas.List.{get_or-drop, length-drop, drop-replicate, get_or-set_same, get_or-set_other}
use Rattle.std.proofs.lemmas.Option.{get_or_from_slice_get, slice_get_within}
use Rattle.std.proofs.lemmas.Grind.{pow_more}
use Rattle.std.proofs.lemmas.Nat.{pow_pos}
use Rattle.std.proofs.Math.Pow.{pow_mono}
use Rattle.em_engine.specs.Flags.{IsFirst, IsTree, node}

parity : (k : ℕ) → (k ≡ 2 * (k / 2)) ⊎ (k ≡ 2 * (k / 2) + 1)
parity k = by_case (k % 2 == 0) refl
  where
    by_case : (b : Bool) → (k % 2 == 0) ≡ b → (k ≡ 2 * (k / 2)) ⊎ (k ≡ 2 * (k / 2) + 1)
    by_case true e = let z : k % 2 ≡ 0 = eqb-true (k % 2) 0 e in inl (omega arith)
    by_case false e = let z : k % 2 ≢ 0 = (λ h. let t : (k % 2 == 0) ≡ true = eq-eqb (k % 2) 0 h in absurd (cc)) in inr (omega arith)

-- a node that tells of none, and its halves
none_below : (levels width : ℕ) (any : List Bool) → IsTree levels width any → (k : ℕ) → 0 < k / 2 → k / 2 < width → node any (k / 2) ≡ false → node any k ≡ false
none_below levels width any t k low high none =
    let both = or_parts _ _ (sym (t.tells (k / 2) low high) ∙ none) in
    by_half both.0 both.1 (parity k)
  where
    by_half : node any (2 * (k / 2)) ≡ false → node any (2 * (k / 2) + 1) ≡ false → (k ≡ 2 * (k / 2)) ⊎ (k ≡ 2 * (k / 2) + 1) → node any k ≡ false
    by_half a b (inl e) = ap (node any) e ∙ a
    by_half a b (inr e) = ap (node any) e ∙ b

none_at : (levels width : ℕ) (any : List Bool) → IsTree levels width any → node any 1 ≡ false → (c : ℕ) → c ≤ levels → (k : ℕ) → 2 ^ c ≤ k → k < 2 * 2 ^ c → node any k ≡ false
none_at levels width any t none zero within k low high = let e : k ≡ 1 = omega arith in ap (node any) e ∙ none
none_at levels width any t none (suc c) within k low high =
    let p : 2 ^ (c + 1) ≡ 2 ^ c * 2 = pow_more 2 c in
    let q : 2 ^ (c + 1) ≤ 2 ^ levels = (let d : c + 1 ≤ levels = omega arith in pow_mono d) in
    let z : 0 < 2 ^ c = pow_pos c in
    let w = t.wide in
    none_below levels width any t k (omega arith) (omega arith) (none_at levels width any t none c (omega arith) (k / 2) (omega arith) (omega arith))

-- what was read at a place within
pub told : (any : List Bool) (k : ℕ) (b : Bool) → k < length any → b ≡ get_or any k b → node any k ≡ b
told [] k b lt is = absurd (omega arith)
told (x ∷ any) zero b lt is = sym is
told (x ∷ any) (suc k) b lt is = told any k b (omega arith) is

pub raised : (fs : List Bool) (i : ℕ) → get_or fs i false ≡ true → slice_get fs i ≡ Some true
raised [] i h = absurd (cc)
raised (b ∷ fs) zero h = ap (λ (x : Bool). Some x) h
raised (b ∷ fs) (suc i) h = raised fs i h

pub no_flag : (levels width : ℕ) (any : List Bool) → IsTree levels width any → node any 1 ≡ false → (i : ℕ) → slice_get (drop width any) i ≢ Some true
no_flag levels width any t none i at =
    let within : i < length (drop width any) = slice_get_within (drop width any) i true at in
    let l = length-drop width any in
    let whole = t.whole in
    let w = t.wide in
    let up : node any (width + i) ≡ true = sym (get_or-drop width any i false) ∙ get_or_from_slice_get (drop width any) i true false at in
    let down : node any (width + i) ≡ false = none_at levels width any t none levels (omega arith) (width + i) (omega arith) (omega arith) in
    absurd (cc)

pub first_flag : (levels width : ℕ) (any : List Bool) → IsTree levels width any → (k : ℕ) → 2 ^ levels ≤ k → k < 2 * 2 ^ levels → node any k ≡ true
    → ((j : ℕ) → 2 ^ levels ≤ j → j < k → node any j ≡ false) → IsFirst (drop width any) (k - width)
first_flag levels width any t k low high here before =
    let w = t.wide in
    let back : width + (k - width) ≡ k = omega arith in
    record {
      here = raised (drop width any) (k - width) (get_or-drop width any (k - width) false ∙ ap (node any) back ∙ here);
      before = λ i less at.
          let up : node any (width + i) ≡ true = sym (get_or-drop width any i false) ∙ get_or_from_slice_get (drop width any) i true false at in
          let down : node any (width + i) ≡ false = before (width + i) (omega arith) (omega arith) in
          absurd (cc);
    }

-- one level further down: to the lower half where it tells of a flag, else to the upper one
pub record Down (c n : ℕ) (any : List Bool) : Type 0 where
  pub from : 2 ^ c ≤ n
  pub to : n < 2 * 2 ^ c
  pub here : node any n ≡ true
  pub before : (k : ℕ) → 2 ^ c ≤ k → k < n → node any k ≡ false

half_before : (levels width : ℕ) (any : List Bool) → IsTree levels width any → (c n : ℕ) → c < levels → 2 ^ c ≤ n → n < 2 * 2 ^ c → ((k : ℕ) → 2 ^ c ≤ k → k < n → node any k ≡ false)
    → (k : ℕ) → 2 ^ (c + 1) ≤ k → k < 2 * n → node any k ≡ false
half_before levels width any t c n deep from to before k low high =
    let p : 2 ^ (c + 1) ≡ 2 ^ c * 2 = pow_more 2 c in
    let q : 2 ^ (c + 1) ≤ 2 ^ levels = (let d : c + 1 ≤ levels = omega arith in pow_mono d) in
    let z : 0 < 2 ^ c = pow_pos c in
    let w = t.wide in
    none_below levels width any t k (omega arith) (omega arith) (before (k / 2) (omega arith) (omega arith))

pub inner : (levels width : ℕ) (any : List Bool) → IsTree levels width any → (c n : ℕ) → c < levels → n < 2 * 2 ^ c → n < width
inner levels width any t c n deep to =
    let p : 2 ^ (c + 1) ≡ 2 ^ c * 2 = pow_more 2 c in
    let q : 2 ^ (c + 1) ≤ 2 ^ levels = (let d : c + 1 ≤ levels = omega arith in pow_mono d) in
    let w = t.wide in
    omega arith

pub down_low : (levels width : ℕ) (any : List Bool) → IsTree levels width any → (c n : ℕ) → c < levels → 2 ^ c ≤ n → n < 2 * 2 ^ c → ((k : ℕ) → 2 ^ c ≤ k → k < n → node any k ≡ false)
    → node any (2 * n) ≡ true → Down (c + 1) (2 * n) any
down_low levels width any t c n deep from to before low =
    let p : 2 ^ (c + 1) ≡ 2 ^ c * 2 = pow_more 2 c in
    record { from = omega arith; to = omega arith; here = low; before = half_before levels width any t c n deep from to before }

pub down_high : (levels width : ℕ) (any : List Bool) → IsTree levels width any → (c n : ℕ) → c < levels → 2 ^ c ≤ n → n < 2 * 2 ^ c → node any n ≡ true → ((k : ℕ) → 2 ^ c ≤ k → k < n → node any k ≡ false)
    → node any (2 * n) ≡ false → Down (c + 1) (2 * n + 1) any
down_high levels width any t c n deep from to here before low =
    let p : 2 ^ (c + 1) ≡ 2 ^ c * 2 = pow_more 2 c in
    let z : 0 < 2 ^ c = pow_pos c in
    let or : (node any (2 * n) || node any (2 * n + 1)) ≡ true = sym (t.tells n (omega arith) (inner levels width any t c n deep to)) ∙ here in
    let high : node any (2 * n + 1) ≡ true = ap (λ b. b || node any (2 * n + 1)) (sym low) ∙ or in
    record {
      from = omega arith;
      to = omega arith;
      here = high;
      before = λ k least less. by_test k least less (k == 2 * n) refl;
    }
  where
    by_test : (k : ℕ) → 2 ^ (c + 1) ≤ k → k < 2 * n + 1 → (b : Bool) → (k == 2 * n) ≡ b → node any k ≡ false
    by_test k least less true e = ap (node any) (eqb-true k (2 * n) e) ∙ low
    by_test k least less false e =
        let ne : k ≢ 2 * n = (λ h. let t : (k == 2 * n) ≡ true = eq-eqb k (2 * n) h in absurd (cc)) in
        half_before levels width any t c n deep from to before k least (omega arith)

-- ---- one flag put, and the nodes above it

pub node_other : (any : List Bool) (i k : ℕ) (b : Bool) → k ≢ i → node (set any i b) k ≡ node any k
node_other any i k b ne = get_or-set_other any i k b false ne

pub node_same : (any : List Bool) (i : ℕ) (b : Bool) → i < length any → node (set any i b) i ≡ b
node_same any i b lt = get_or-set_same any i b false lt

-- where a flag is put, only the node right above it may tell what isn't so
pub put_leaf : (width : ℕ) (any : List Bool) (leaf : ℕ) (b : Bool) → width ≤ leaf
    → ((k : ℕ) → 0 < k → k < width → node any k ≡ (node any (2 * k) || node any (2 * k + 1)))
    → (k : ℕ) → 0 < k → k < width → 2 * k ≢ leaf → 2 * k + 1 ≢ leaf
    → node (set any leaf b) k ≡ (node (set any leaf b) (2 * k) || node (set any leaf b) (2 * k + 1))
put_leaf width any leaf b low tells k more less even odd =
    node_other any leaf k b (omega arith) ∙ tells k more less
    ∙ ap (λ (x : Bool). x || node any (2 * k + 1)) (sym (node_other any leaf (2 * k) b even))
    ∙ ap (λ (x : Bool). node (set any leaf b) (2 * k) || x) (sym (node_other any leaf (2 * k + 1) b odd))

-- a node mended, only the one right above it may
pub mend : (width : ℕ) (any : List Bool) (n : ℕ) (b : Bool) → 1 < n → n < 2 * width → length any ≡ 2 * width
    → ((k : ℕ) → 0 < k → k < width → 2 * k ≢ n → 2 * k + 1 ≢ n → node any k ≡ (node any (2 * k) || node any (2 * k + 1)))
    → b ≡ (node any (2 * (n / 2)) || node any (2 * (n / 2) + 1))
    → (k : ℕ) → 0 < k → k < width → 2 * k ≢ n / 2 → 2 * k + 1 ≢ n / 2
    → node (set any (n / 2) b) k ≡ (node (set any (n / 2) b) (2 * k) || node (set any (n / 2) b) (2 * k + 1))
mend width any n b more within whole tells is k low high even odd = by_test (k == n / 2) refl
  where
    halves : (node any (2 * k) || node any (2 * k + 1)) ≡ (node (set any (n / 2) b) (2 * k) || node (set any (n / 2) b) (2 * k + 1))
    halves = ap (λ (x : Bool). x || node any (2 * k + 1)) (sym (node_other any (n / 2) (2 * k) b even))
        ∙ ap (λ (x : Bool). node (set any (n / 2) b) (2 * k) || x) (sym (node_other any (n / 2) (2 * k + 1) b odd))

    by_test : (t : Bool) → (k == n / 2) ≡ t → node (set any (n / 2) b) k ≡ (node (set any (n / 2) b) (2 * k) || node (set any (n / 2) b) (2 * k + 1))
    by_test true e =
        let same : k ≡ n / 2 = eqb-true k (n / 2) e in
        ap (node (set any (n / 2) b)) same ∙ node_same any (n / 2) b (omega arith) ∙ is ∙ ap (λ (h : ℕ). node any (2 * h) || node any (2 * h + 1)) (sym same) ∙ halves
    by_test false e =
        let ne : k ≢ n / 2 = (λ h. let t : (k == n / 2) ≡ true = eq-eqb k (n / 2) h in absurd (cc)) in
        node_other any (n / 2) k b ne ∙ tells k low high (λ h. ne (omega arith)) (λ h. ne (omega arith)) ∙ halves

pub none_raised : (n m i : ℕ) → slice_get (drop m (replicate n false)) i ≢ Some true
none_raised n m i h =
    let e : slice_get (replicate (n - m) false) i ≡ Some true = ap (λ (xs : List Bool). slice_get xs i) (sym (drop-replicate m n false)) ∙ h in
    lowered (n - m) i e
  where
    lowered : (n i : ℕ) → slice_get (replicate n false) i ≢ Some true
    lowered zero i h = absurd (cc)
    lowered (suc n) zero h = absurd (cc)
    lowered (suc n) (suc i) h = lowered n i h

pub none_told : (n i : ℕ) → node (replicate n false) i ≡ false
none_told zero i = refl
none_told (suc n) zero = refl
none_told (suc n) (suc i) = none_told n i
