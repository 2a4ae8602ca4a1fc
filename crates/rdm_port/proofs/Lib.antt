mod CommandLemmas
mod ExplanationLemmas
mod LineLemmas
mod LoggedLemmas
mod RunLemmas
