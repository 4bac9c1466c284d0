pub mod SessionSteps
