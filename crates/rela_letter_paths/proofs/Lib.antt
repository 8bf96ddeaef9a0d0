mod RenamedStates
mod RenamedWords
mod SymbolWords
mod WithinSymbols
