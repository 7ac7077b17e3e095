pub mod MadeMoves
