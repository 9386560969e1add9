mod Tolled
