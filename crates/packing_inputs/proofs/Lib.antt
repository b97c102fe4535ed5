-- That the answer of a broadcast is read back; the counts of a tally as words.
pub mod Casts
mod TallyWords
