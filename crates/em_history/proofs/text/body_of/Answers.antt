use Rattle.std.proofs.Common.{◌≡◌, ◌∙◌, ◌++◌, ℕ, Bor, List, Option, Some, None, codes, drop, sym, ap}
use Rattle.std.specs.Option.{MatchOption}
use Rattle.std.proofs.lemmas.Bool.Decides.{Decides-eqb}
use Rattle.std.proofs.lemmas.Slice.Eq.{strip_prefix_is, strip_suffix_is}
use Rattle.em_history.proofs.text.body_of.Goals as goal

-- the end is taken from what stands behind the head
ended : (bytes rest : List ℕ) (r : Option (Bor (List ℕ))) → bytes ≡ codes "EMHIST 1\n" ++ rest
    → MatchOption r ((front : List ℕ) → rest ≡ front ++ codes ".\n" → ⊥) (λ x. rest ≡ x.now ++ codes ".\n")
    → MatchOption r ((body : List ℕ) → codes "EMHIST 1\n" ++ body ++ codes ".\n" ≡ bytes → ⊥) (λ b. codes "EMHIST 1\n" ++ b.now ++ codes ".\n" ≡ bytes)
ended bytes rest None head none = λ body is. none body (ap (drop 9) (sym head ∙ sym is))
ended bytes rest (Some b) head is = ap (λ t. codes "EMHIST 1\n" ++ t) (sym is) ∙ sym head

pub returns : goal.returns
returns c =
    let rest = c.in_ok-strip_prefix.field-0 in
    ended c.args.bytes.now rest.now c.strip_suffix.result
    (strip_prefix_is Decides-eqb c.args.bytes.now (codes "EMHIST 1\n") (Some rest) c.in_ok-strip_prefix.ensures.cases)
    (strip_suffix_is Decides-eqb rest.now (codes ".\n") c.strip_suffix.result c.strip_suffix.ensures.cases)
