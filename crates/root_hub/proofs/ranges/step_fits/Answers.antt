use Rattle.root_hub.proofs.Cases.{fits_is}
use Rattle.root_hub.specs.declared.scan.Awaited.TheVariants.{Gone, Reset, Release, Again, Owner}
use Rattle.root_hub.proofs.ranges.step_fits.Goals as goal

pub returns-in-Gone : goal.returns-in-Gone
returns-in-Gone c = search (fits_is Gone)

pub returns-in-Reset : goal.returns-in-Reset
returns-in-Reset c = search (fits_is Reset)

pub returns-in-Release : goal.returns-in-Release
returns-in-Release c = search (fits_is Release)

pub returns-in-Again : goal.returns-in-Again
returns-in-Again c = search (fits_is Again)

pub returns-in-Owner : goal.returns-in-Owner
returns-in-Owner c = search (fits_is Owner)
