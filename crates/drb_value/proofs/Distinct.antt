-- A new key keeps the keys distinct, and a new name the names: the lemmas of the tree's crate, by their earlier names.
pub use Rattle.drb_tree.proofs.Distinct.{keys_distinct-push, names_distinct-push}
