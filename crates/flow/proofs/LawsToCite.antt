-- What other crates cite of this one's proofs.
pub use Rattle.flow.proofs.States.{TellsApart}
pub use Rattle.flow.proofs.Laws.{reads_are_assigned, assigned_once, assigned_no_later, never_assigned, unreachable_is_not_reached, ends_where_it_can}
pub use Rattle.flow.proofs.Finals.{assigned_exactly_once, assigned_at_the_end}
pub use Rattle.flow.proofs.Places.{not_reachable}
pub use Rattle.flow.proofs.Kept.{IsFull, takes_nothing, assigned_stays_so, unassigned_stays_so}
pub use Rattle.flow.proofs.Chains.{Grows, AllGrow, chain_same, chain_default_same, parts, groups_are, seq_assoc, seq_skip}
pub use Rattle.flow.proofs.Codes.{Still, coded_same}
