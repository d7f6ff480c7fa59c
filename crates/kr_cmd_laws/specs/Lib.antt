-- The definitions that contracts cite.
pub mod CommandLaws
pub mod DrawLaws
pub mod FleetLaws
pub mod FleetPlugins
pub mod HeadlineLaws
pub mod LineQuestions
pub mod PlanLaws
pub mod PluginLaws
pub mod Results
pub mod RunHeadlines
pub mod VerifyLaws
pub mod WrongRuns
