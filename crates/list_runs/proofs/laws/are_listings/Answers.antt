use Rattle.list_runs.proofs.Listings.{are_listings}
use Rattle.list_runs.proofs.laws.are_listings.Goals as goal

pub returns : goal.returns
returns c = are_listings
