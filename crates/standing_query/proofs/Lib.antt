mod NewHitsFound
mod VersionParts
