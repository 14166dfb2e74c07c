-- The lemmas for other crates: nothing else of these proofs is cited from outside.
pub use Rattle.em_path.proofs.Spelling.{behind, parts, components-path_text, components-long, path_text-parts, path_text-push, child_spelled, child_length, child_depth, child_is_path, components-child, child_of_root, child_parent, child_last, path_begins, root_is_path, IsPath-under_root, split_last, IsChild, as_child, order_child}
pub use Rattle.em_path.proofs.Testing.{component_hold, component_pass, path_hold, path_pass, no_path}
pub use Rattle.em_path.proofs.Walking.{resolve_names, resolves_itself}
