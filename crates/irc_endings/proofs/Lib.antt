mod ReadySaid
