-- Words of the lent tables past what the sizes name.
use Rattle.std.specs.Prelude.{suc, ◌*◌, ◌≡◌, drop}
use Rattle.base_protocol.specs.declared.Sizes.{Sizes}
use Rattle.table.specs.Fields.{row_words, version_words, bucket_words}
use Rattle.table.specs.Lists.{lists_words}
use Rattle.step.specs.Steps.{Tables}

-- words past what the sizes name are as they were
pub record PastKept (z : Sizes) (before after : Tables) : Type 0 where
  pub rows : drop (row_words * z.rows) after.rows ≡ drop (row_words * z.rows) before.rows
  pub versions : drop (version_words * suc z.versions) after.versions ≡ drop (version_words * suc z.versions) before.versions
  pub buckets : drop (bucket_words * z.buckets) after.buckets ≡ drop (bucket_words * z.buckets) before.buckets
  pub lists : drop lists_words after.lists ≡ drop lists_words before.lists
