-- What the listing of a folder told an import, as its report tells it.
use Rattle.std.specs.Prelude.{List}
use Rattle.import_work.specs.declared.batch.FileLine.{FileLine}
use Rattle.import_work.specs.declared.listing.Listing.{Listing}
use Rattle.import_work.specs.declared.listing.Listing.TheVariants as listing
use Rattle.import_work.specs.declared.report.ReportBody.{ReportBody}
use Rattle.import_work.specs.declared.report.ReportBody.TheVariants as report

-- what the report tells, with these lines so far
abbrev pub body_of : Listing → List FileLine → ReportBody
body_of listing.Names lines = report.Files lines
body_of listing.Unlisted lines = report.Unlisted
body_of (listing.TooMany listed) lines = report.TooMany listed
