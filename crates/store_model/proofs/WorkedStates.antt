-- Along the worked runs nodes, heads, indexes and leaves stand where they should.
use Rattle.std.proofs.Common.{arith, refl, inl, inr}
use Rattle.ubifs_base.specs.R5.{r5_of}
use Rattle.index_tree.specs.Order.{key_rank}
use Rattle.index_tree.specs.Removal.{same_leaf}
use Rattle.store_model.specs.Events.{run}
use Rattle.store_model.specs.Invariant.{IsStanding}
use Rattle.store_model.specs.Worked.{collected_events, half_collected, one_file, put_am, rooted_store, until_offer, whole_commit}
use Rattle.store_model.specs.WorkedRun.{collection, first_commit, run_all, second_commit, started}

pub put_stands : IsStanding (run put_am rooted_store)
unfolding key_rank r5_of same_leaf
put_stands = record {
  texts = record {
    laid = (record { places = refl; fits = omega arith }, (record { places = refl; fits = omega arith }, (record { places = refl; fits = omega arith }, (record { places = refl; fits = omega arith }, (record { places = refl; fits = omega arith }, (record { places = refl; fits = omega arith }, (record { places = refl; fits = omega arith }, (record { places = refl; fits = omega arith }, (record { places = refl; fits = omega arith }, (record { places = refl; fits = omega arith }, (record { places = refl; fits = omega arith }, (record { places = refl; fits = omega arith }, tt))))))))))));
    buds = record { distinct = refl; each = (record { nodes = refl; from = omega arith }, tt) };
    later = tt;
    ends = (tt, ((refl, refl), (tt, tt)));
    written = (refl, tt);
  };
  indexed = record { now = record { nodes = (inr refl, tt); apart = refl }; next = tt; last = tt; children = refl };
  of_views = record { live = ((inr (inl refl), tt), ((inl refl, tt), ((inl refl, tt), tt))); held = tt };
}

pub offered_stands : IsStanding (run until_offer rooted_store)
unfolding key_rank r5_of same_leaf
offered_stands = record {
  texts = record {
    laid = (record { places = refl; fits = omega arith }, (record { places = refl; fits = omega arith }, (record { places = refl; fits = omega arith }, (record { places = refl; fits = omega arith }, (record { places = refl; fits = omega arith }, (record { places = refl; fits = omega arith }, (record { places = refl; fits = omega arith }, (record { places = refl; fits = omega arith }, (record { places = refl; fits = omega arith }, (record { places = refl; fits = omega arith }, (record { places = refl; fits = omega arith }, (record { places = refl; fits = omega arith }, tt))))))))))));
    buds = record { distinct = refl; each = (record { nodes = refl; from = omega arith }, tt) };
    later = record { distinct = refl; each = (record { nodes = refl; from = omega arith }, tt) };
    ends = (tt, ((refl, refl), (tt, tt)));
    written = (refl, tt);
  };
  indexed = record { now = record { nodes = (inr refl, tt); apart = refl }; next = record { nodes = (inr refl, tt); apart = refl }; last = tt; children = refl };
  of_views = record { live = ((inr (inl refl), inr (inl refl)), ((inl refl, inr (inr (inl refl))), ((inl refl, inl refl), ((inl refl, inr (inr (inr (inl refl)))), ((inl refl, inl refl), tt))))); held = tt };
}

pub ended_stands : IsStanding (run whole_commit rooted_store)
unfolding key_rank r5_of same_leaf
ended_stands = record {
  texts = record {
    laid = (record { places = refl; fits = omega arith }, (record { places = refl; fits = omega arith }, (record { places = refl; fits = omega arith }, (record { places = refl; fits = omega arith }, (record { places = refl; fits = omega arith }, (record { places = refl; fits = omega arith }, (record { places = refl; fits = omega arith }, (record { places = refl; fits = omega arith }, (record { places = refl; fits = omega arith }, (record { places = refl; fits = omega arith }, (record { places = refl; fits = omega arith }, (record { places = refl; fits = omega arith }, tt))))))))))));
    buds = record { distinct = refl; each = (record { nodes = refl; from = omega arith }, tt) };
    later = tt;
    ends = (tt, ((refl, refl), (tt, tt)));
    written = (refl, tt);
  };
  indexed = record { now = record { nodes = (inr refl, tt); apart = refl }; next = tt; last = tt; children = refl };
  of_views = record { live = ((inr (inl refl), tt), ((inr (inr (inl refl)), tt), ((inl refl, tt), ((inr (inr (inr (inl refl))), tt), ((inl refl, tt), tt))))); held = tt };
}

pub half_stands : IsStanding (run half_collected one_file)
unfolding key_rank r5_of same_leaf
half_stands = record {
  texts = record {
    laid = (record { places = refl; fits = omega arith }, (record { places = refl; fits = omega arith }, (record { places = refl; fits = omega arith }, (record { places = refl; fits = omega arith }, (record { places = refl; fits = omega arith }, (record { places = refl; fits = omega arith }, (record { places = refl; fits = omega arith }, (record { places = refl; fits = omega arith }, (record { places = refl; fits = omega arith }, (record { places = refl; fits = omega arith }, (record { places = refl; fits = omega arith }, (record { places = refl; fits = omega arith }, tt))))))))))));
    buds = record { distinct = refl; each = (record { nodes = refl; from = omega arith }, tt) };
    later = tt;
    ends = ((refl, refl), (tt, (tt, tt)));
    written = (refl, tt);
  };
  indexed = record { now = record { nodes = (inr refl, tt); apart = refl }; next = tt; last = tt; children = refl };
  of_views = record { live = ((inl refl, tt), ((inr (inr (inl refl)), tt), ((inr (inr (inr (inl refl))), tt), tt))); held = tt };
}

pub collected_stands : IsStanding (run collected_events one_file)
unfolding key_rank r5_of same_leaf
collected_stands = record {
  texts = record {
    laid = (record { places = refl; fits = omega arith }, (record { places = refl; fits = omega arith }, (record { places = refl; fits = omega arith }, (record { places = refl; fits = omega arith }, (record { places = refl; fits = omega arith }, (record { places = refl; fits = omega arith }, (record { places = refl; fits = omega arith }, (record { places = refl; fits = omega arith }, (record { places = refl; fits = omega arith }, (record { places = refl; fits = omega arith }, (record { places = refl; fits = omega arith }, (record { places = refl; fits = omega arith }, tt))))))))))));
    buds = record { distinct = refl; each = (record { nodes = refl; from = omega arith }, tt) };
    later = tt;
    ends = ((refl, refl), (tt, (tt, tt)));
    written = (refl, tt);
  };
  indexed = record { now = record { nodes = (inr refl, tt); apart = refl }; next = tt; last = tt; children = refl };
  of_views = record { live = ((inl refl, tt), ((inl refl, tt), ((inl refl, tt), tt))); held = tt };
}

-- three index nodes, the root with the places of the two below it
pub long_stands : IsStanding (run_all second_commit (run_all collection (run_all first_commit started)))
unfolding key_rank r5_of same_leaf
long_stands = record {
  texts = record {
    laid = (record { places = refl; fits = omega arith }, (record { places = refl; fits = omega arith }, (record { places = refl; fits = omega arith }, (record { places = refl; fits = omega arith }, (record { places = refl; fits = omega arith }, (record { places = refl; fits = omega arith }, (record { places = refl; fits = omega arith }, (record { places = refl; fits = omega arith }, (record { places = refl; fits = omega arith }, (record { places = refl; fits = omega arith }, (record { places = refl; fits = omega arith }, (record { places = refl; fits = omega arith }, tt))))))))))));
    buds = record { distinct = refl; each = (record { nodes = refl; from = omega arith }, (record { nodes = refl; from = omega arith }, tt)) };
    later = tt;
    ends = ((refl, refl), ((refl, refl), (tt, tt)));
    written = (refl, (refl, tt));
  };
  indexed = record { now = record { nodes = (inr refl, (inr refl, (inr refl, tt))); apart = refl }; next = tt; last = tt; children = refl };
  of_views = record { live = ((inr (inl refl), tt), ((inr (inr (inl refl)), tt), ((inr (inr (inr (inr (inl refl)))), tt), tt))); held = tt };
}
