mod LineLemmas
mod ApartLemmas
