pub use Rattle.irc_script.specs.Sinks
pub use Rattle.irc_script.specs.Runs
pub use Rattle.irc_script.specs.Lemmas as ScriptLemmas
pub use Rattle.irc_script.specs.declared.fault as script_fault
pub mod Limits
pub mod Statuses
pub mod Words
pub mod Ready
pub mod Saying
