-- The lemmas for other crates: nothing else of these proofs is cited from outside.
pub use Rattle.em_base.proofs.Lists.{by_cases, position-None, at_rest, rest_length, Runs, runs_to, runs_out, prefix_until, left_at, none_at, cell, front_left, front_right, cut_length, cut_whole, cut_drop, cut_at, cut_all, any_map, map_filter, map_map, find_map, missing, present, all_push, holds_last, all_hold, all_pass, last_push}
pub use Rattle.em_base.proofs.Orders.{in_order, in_order_rises, in_order_is, in_order_has, sorted_is}
pub use Rattle.em_base.proofs.Maps.{order, exact, seen, hashed_found, hashed_len, hashed_put, hashed_taken, same_key, own_key, flip_keys, get_put, get_kept, get_new, stays_there, insert_swap, taken_back, AllBelow, below_further, below_append, entries_push, get_above, front_below, at_err}
pub use Rattle.em_base.proofs.Numerals.{decimal_first, decimal_digits, decimal_value, digits_spell, number_law}
