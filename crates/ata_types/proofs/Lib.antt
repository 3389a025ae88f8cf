mod RangeLemmas
