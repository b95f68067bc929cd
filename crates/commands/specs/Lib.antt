-- The commands of the programs over a panel.
pub mod Commands
