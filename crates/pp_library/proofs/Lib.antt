mod OneFileLemmas
mod OfOneLemmas
mod ReportLemmas
mod AnswerLemmas
mod FigureLemmas
mod MergeLemmas
mod PlaceLemmas
