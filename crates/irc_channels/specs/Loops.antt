pub mod ManyChanges
