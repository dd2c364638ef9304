mod Ranking
mod Examples
mod Putting
mod Parting
mod Fitting
mod Naming
mod ComparedRanking
mod ComparedExamples
