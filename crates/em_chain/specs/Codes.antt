-- How posts are told apart.
use Rattle.std.specs.Prelude.{ℕ, refl}
use Rattle.std.specs.Coded.{Coded, code_by, coded×, coded_ℕ, coded_list, coded_option}
use Rattle.std.specs.FinMap as map
use Rattle.em_tree.specs.declared.state.State.{State}
use Rattle.em_tree.specs.contracts.node.Node as node
use Rattle.em_tree.specs.contracts.state.State as state
use Rattle.em_chain.specs.contracts.post.Post as post
use Rattle.em_chain.specs.Posts.{Posts, Merged, Floored}

abbrev pub merged_code : Coded Merged
merged_code = map.code (coded_list coded_ℕ) (coded× coded_ℕ (coded_option node.the_row.coded))

abbrev pub posts_code : Coded Posts
posts_code = map.code coded_ℕ post.the_row.coded

abbrev pub floored_code : Coded Floored
floored_code = code_by ((State × ℕ) × (Merged × Posts)) (coded× (coded× state.the_row.coded coded_ℕ) (coded× merged_code posts_code))
    (λ v. ((v.start, v.floor), (v.merged, v.posts))) (λ p. record { start = p.0.0; floor = p.0.1; merged = p.1.0; posts = p.1.1 }) (λ _. refl)
