-- What the fields of a listing stand for.
use Rattle.rela_snapshot.specs.Listed.{Listed}
use Rattle.rela_snapshot.specs.declared.listing.Listing.TheInside.{Inside}

abbrev pub listed : Inside → Listed
listed l = record {
  nodes = l.nodes.items;
  edges = l.edges.items;
  starts = l.starts.items;
  delivered = l.delivered.items;
  dropped = l.dropped.items;
}
