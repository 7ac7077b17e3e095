mod MergedParts
mod PublishedSegments
pub mod PushedSegments
