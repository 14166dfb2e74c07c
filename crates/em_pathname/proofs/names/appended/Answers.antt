use Rattle.std.proofs.Common.{◌≡◌, ◌∙◌, ◌++◌, List, ap, sym}
use Rattle.std.proofs.lemmas.List.{map-id}
use Rattle.std.specs.Result.{OnOk}
use Rattle.std.proofs.lemmas.Iterator.Adapters.{fact_from_extend, YieldsList-from_vec}
use Rattle.em_pathname.specs.declared.found.PathMatch.{PathMatch}
use Rattle.em_pathname.proofs.names.appended.Goals as goal

pub returns : goal.returns
returns c =
    let all : OnOk c.extend.result (c.extend.new.self.items ≡ c.args.so_far ++ c.args.more) = fact_from_extend (λ x. x) c.extend.result c.extend.ensures.ran (λ it b. YieldsList-from_vec {s = it} _ b.0 (b.1 ∙ c.into_vec.result.ok.0)) (λ xs e h. h.0 ∙ ap (λ (fs : List PathMatch). fs ++ xs) c.into_vec-all.ensures ∙ ap (λ (fs : List PathMatch). c.args.so_far ++ fs) (sym (map-id xs) ∙ e ∙ c.into_vec.ensures)) in
    c.from_vec.ensures ∙ rw c.in_ok-extend.was at all
