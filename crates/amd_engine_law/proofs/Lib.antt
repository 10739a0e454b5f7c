-- From a run to an engine's answer, and that there is one answer.
pub mod EngineLaw
pub mod EnginesAgree
