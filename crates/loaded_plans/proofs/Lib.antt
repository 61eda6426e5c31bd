mod Fitting
mod Answers
