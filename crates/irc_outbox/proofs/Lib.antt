pub mod MemoryLaws
mod StepLaws
mod PassingLaws
mod AmpleLaws
mod AnswerLaws
