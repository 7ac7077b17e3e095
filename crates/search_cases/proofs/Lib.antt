mod CoveredGames
