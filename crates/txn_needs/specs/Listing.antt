-- What is listed in lent words.
use Rattle.txn_needs.specs.declared.Listing.{Listing}
use Rattle.txn_needs.specs.Needs.{Listed}

-- the words behind a listing, and how many of them are listed
abbrev pub listed_of : Listing → Listed
listed_of l = record { out = l.out.now; n = l.n }
