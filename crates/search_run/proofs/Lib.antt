mod BesideLemmas
mod EndedImports
mod JoinedRuns
mod SeenLemmas
mod StoppedRuns
