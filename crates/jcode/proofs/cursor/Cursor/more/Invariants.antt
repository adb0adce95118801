use Rattle.std.proofs.Common.{◌≡◌, ◌-◌, ◌≤◌, [], ◌∷◌}
use Rattle.jcode.specs.Scopes.{scope_of, listed_in}
use Rattle.jcode.specs.Sentences.{listing_of}
use Rattle.jcode.specs.ReadStatements.{read_more}
use Rattle.jcode.proofs.cursor.Cursor.more.Given as goal

abbrev pub invariant-loop-self : goal.invariant-loop-self
invariant-loop-self l = record {
  same : l.self.bytes.now ≡ l.initial.self.bytes.now;
  proper : l.listing ≡ listing_of (listed_in l.listing);
  few : l.listing.count ≤ 8;
  whole : read_more (scope_of l.scope) (8 - l.listing.count) (listed_in l.listing) l.initial.self.bytes.now l.self.at ≡ read_more (scope_of l.scope) 7 (l.first ∷ []) l.initial.self.bytes.now l.initial.self.at;
}

abbrev pub decreases-loop-self : goal.decreases-loop-self
decreases-loop-self l = 8 - l.listing.count
